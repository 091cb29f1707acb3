use Rattle.delay_table.proofs.{Common.{ℕ, subst, Err, nat_cmp, List, searched, arith}, TypeFacts.{absent_type, never_falls}}
use Rattle.std.specs.List.Sorted.{IsBinarySearchResult}
use Rattle.delay_table.proofs.table.DelayTable.class_of.Goals as goal

pub returns-in-Err-clause-class : goal.returns-in-Err-clause-class
returns-in-Err-clause-class c = λ there.
    let types = c.self.inside.types in
    let P : List ℕ → Type 0 = λ xs. IsBinarySearchResult (λ y. nat_cmp y c.args.route_type) xs (Err c.in-Err.field-0) in
    let r = searched types c.args.route_type (Err c.in-Err.field-0) (subst P c.as_slice.ensures c.in-Err.ensures.position) (never_falls types c.self.invariant.rising) in
    grind (arith, absent_type)

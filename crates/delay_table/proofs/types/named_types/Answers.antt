use Rattle.delay_table.proofs.{Common.{◌∙◌, ap, length, subst, List, ℕ, IsPermutation, length_permutation}, PlainTypes.sorted-are-route_types_below}
use Rattle.delay_table.proofs.types.named_types.Goals as goal

pub returns-clause-named : goal.returns-clause-named
returns-clause-named c =
    let groups = c.args.read.now.groups in
    let sorted = c.sort_unstable.new.self.items in
    let P : List ℕ → Type 0 = λ xs. IsPermutation xs sorted in
    sorted-are-route_types_below groups c.args.read.now.rows.items c.args.read.now.read sorted (subst P c.in_ok-sorted.ensures c.sort_unstable.ensures.permutation) c.sort_unstable.ensures.sorted

pub returns-clause-size : goal.returns-clause-size
returns-clause-size c = length_permutation _ _ c.sort_unstable.ensures.permutation ∙ ap length c.in_ok-sorted.ensures

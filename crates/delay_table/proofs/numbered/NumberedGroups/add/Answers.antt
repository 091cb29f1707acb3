use Rattle.delay_table.proofs.{Common.{◌≡◌, ◌++◌, ◌∷◌, [], List, length, Some, cond, ap, ◌∙◌, arith, list_any, NumberedGroup, same_numbered}, IndexFacts.indexes-push}
use Rattle.std.specs.HashMap.{get}
use Rattle.delay_table.proofs.numbered.NumberedGroups.add.Goals as goal

pub invariant_of-self-2 : goal.invariant_of-self-2
invariant_of-self-2 c =
    let s = c.self.inside in
    let group = c.args.group in
    let kept = c.in_ok-reserve.ensures.items in
    let size : c.len.result ≡ length s.list.items = omega (arith, ap length kept) in
    indexes-push s.list.items group (get same_numbered s.indexes) (get same_numbered c.insert.new.self)
    (ap (list_any (same_numbered group)) c.self.view_is ∙ c.requires) c.self.invariant
    (λ g. c.in_ok-insert.ensures.updates.0 g ∙ ap (λ n. cond (same_numbered group g) (Some n) (get same_numbered s.indexes g)) size)
    c.push_reserved.new.self.items (c.push_reserved.ensures.items ∙ ap (λ (xs : List NumberedGroup). xs ++ group ∷ []) kept)

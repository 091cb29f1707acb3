use Rattle.delay_table.proofs.{Common.{sym, subst, Bor, List, ℕ, Option, Some, option_map, IsNumber, arith}, RouteFacts.with_route-adds, NumberedFacts.number-is}
use Rattle.delay_table.proofs.other_groups.number_of.Goals as goal

pub returns-clause-routes : goal.returns-clause-routes
returns-clause-routes c = grind (arith, with_route-adds)

pub returns-clause-number : goal.returns-clause-number
returns-clause-number c =
    let P : Option (Bor (List ℕ)) → Type 0 = λ o. IsNumber c.add.new.self (Some c.in_ok-number.number) (option_map (λ s. s.now) o) in
    subst P (sym c.in-Some.is) (number-is c.add.new.self c.in-Some.id.now c.in_ok-number.number c.in_ok-number.ensures.number)

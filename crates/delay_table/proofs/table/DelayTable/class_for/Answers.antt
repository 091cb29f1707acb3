use Rattle.delay_table.proofs.Common.{◌≡◌, sym, subst, Bor, ℕ, List, Option, Some, option_map, IfNone, IfSome, Contains, slice_get, class_for, class_type, numbered_route, routes_of}
use Rattle.delay_table.proofs.{RouteFacts.numbered-class, table.DelayTable.class_for.Goals.{in-None, in-Some}}
use Rattle.delay_table.proofs.table.DelayTable.class_for.Goals as goal

pub returns-clause-class : goal.returns-clause-class
returns-clause-class c =
    let d = c.args.self.now in
    let own = class_type c.args.class in
    let arr = c.args.arrival.0 in
    let found = c.class_at.result.0 in
    let Q : Option (Bor (List ℕ)) → Type 0 = λ o. found ≡ class_for d own (option_map (λ s. s.now) o) arr in
    let P : Option ℕ → Type 0 = λ n. found ≡ class_for d own (numbered_route (routes_of d.others) n) arr in
    elim c.match-route.branch [
      | in-None w ↦ subst Q (sym w.in-None.is) (subst P w.number-is c.class_at.ensures.class)
      | in-Some w ↦
          let id = w.in-Some.id.now in
          let n = w.number-number.result in
          let F : List (List ℕ) → Type 0 = λ xs. IfSome n (λ k. slice_get xs k ≡ Some id) in
          let G : List (List ℕ) → Type 0 = λ xs. IfNone n (¬ Contains xs id) in
          let here = subst F w.routes.ensures w.number-number.ensures.found in
          let absent = subst G w.routes.ensures w.number-number.ensures.none in
          subst Q (sym w.in-Some.is) (numbered-class d id n own arr found here absent (subst P w.number-is c.class_at.ensures.class))
    ]

-- Where one may fail by a graph: at a place of the network, at a moment that has a text.
use Rattle.journey_answers.proofs.Common.{◌≡◌, ℕ, zero, suc, ◌+◌, ◌<◌, ◌≤◌, List, [], ◌∷◌, length, Bool, Option, Some, inl, inr, sym, subst, arith}
use Rattle.journey_answers.proofs.Common.{All, if◌then◌else◌, ◌==◌}
use Rattle.journey_answers.proofs.Common.{MatchOption-at_some, Outcome, Query, NetworkModel, IsValid, count, arr_of, Tree, Done, Stuck, PlanGraph, unfold_plan, IsUnsafe, Problem, last_start}
use Rattle.journey_answers.proofs.Common.{seconds_per_day, last_printable}
use Rattle.std.proofs.lemmas.List.Elements.{All-head, All-tail}
use Rattle.plan_model.specs.{declared.model.Leg.Leg, Unfold.{end_of, outcomes_of, kids_after, ride_or_stuck, unfold_after, unfold_from, by_place}}
use Rattle.plan_graph.specs.{Unfold.pick_at, Tidy.IsFit}
use Rattle.plan_graph.proofs.Picked.{picked_leg}
use Rattle.graph_score.specs.Scores.{Fails, FailsIn}

module _ (n : NetworkModel) (valid : IsValid n) (q : Query) (target_in : q.target.0 < length n.change)
    (choice : Leg → ℕ → Option Leg) (there : (leg : Leg) (x : ℕ) (next : Leg) → choice leg x ≡ Some next → next.exit.0 < count n) where
  -- a place of the network, and a moment that has a text
  abbrev IsPrinted : ℕ → ℕ → Type 0
  IsPrinted p x = (p < length n.change) × (x ≤ last_printable)

  abbrev FailsPrinted : Tree → Type 0
  FailsPrinted tree = (p x : ℕ) → Fails q tree p x → IsPrinted p x

  stuck_printed : (place moment : ℕ) → IsPrinted place moment → FailsPrinted (Stuck place moment)
  stuck_printed place moment is p x (at, since) = (subst (λ (k : ℕ). k < length n.change) (sym at) is.0, subst (λ (k : ℕ). k ≤ last_printable) (sym since) is.1)

  done_printed : (moment : ℕ) → moment ≤ last_printable → FailsPrinted (Done moment)
  done_printed moment early p x (at, since, late) = (subst (λ (k : ℕ). k < length n.change) (sym at) target_in, subst (λ (k : ℕ). k ≤ last_printable) (sym since) early)

  by_test : (b : Bool) (moment : ℕ) (other : Tree) → moment ≤ last_printable → FailsPrinted other → FailsPrinted (if b then Done moment else other)
  by_test b moment other early printed = grind (arith, done_printed)

  children_printed : (next : ℕ → Tree) → ((x : ℕ) → x ≤ last_printable → FailsPrinted (next x)) → (scheduled : ℕ) → scheduled + seconds_per_day ≤ last_printable
      → (row : List Outcome) → All (λ o. o.delay ≤ seconds_per_day) row
      → (p x : ℕ) → FailsIn q (kids_after next scheduled row) p x → IsPrinted p x
  children_printed next goes scheduled early [] few p x none = absurd none
  children_printed next goes scheduled early (o ∷ row) few p x (inl fails) =
      let short = All-head (λ (k : Outcome). k.delay ≤ seconds_per_day) o row few in
      goes (scheduled + o.delay) (omega (arith, early, short)) p x fails
  children_printed next goes scheduled early (o ∷ row) few p x (inr fails) =
      children_printed next goes scheduled early row (All-tail (λ (k : Outcome). k.delay ≤ seconds_per_day) o row few) p x fails

  ride_printed : (next : Leg → ℕ → Tree) (leg : Leg) → leg.exit.0 < count n → ((x : ℕ) → x ≤ last_printable → FailsPrinted (next leg x))
      → (p x : ℕ) → FailsIn q (kids_after (next leg) (arr_of n leg.exit.0) (outcomes_of n leg)) p x → IsPrinted p x
  ride_printed next leg within goes = grind (arith, children_printed)

  or_stuck : (next : Leg → ℕ → Tree) (first : Option Leg) (p x : ℕ) → ((leg : Leg) → first ≡ Some leg → leg.exit.0 < count n)
      → ((leg : Leg) → leg.exit.0 < count n → (y : ℕ) → y ≤ last_printable → FailsPrinted (next leg y))
      → IsPrinted p x → FailsPrinted (ride_or_stuck n next first p x)
  or_stuck next first p x within goes is = grind (arith, stuck_printed, ride_printed)

  after_printed : (rides : ℕ) (leg : Leg) → leg.exit.0 < count n → (x : ℕ) → x ≤ last_printable → FailsPrinted (unfold_after n q.target.0 choice rides leg x)
  after_printed zero leg within x early = grind (arith, by_test, stuck_printed)
  after_printed (suc rides) leg within x early =
      by_test (end_of n leg == q.target.0) x (ride_or_stuck n (unfold_after n q.target.0 choice rides) (choice leg x) (end_of n leg) x) early
      (or_stuck (unfold_after n q.target.0 choice rides) (choice leg x) (end_of n leg) x (there leg x) (after_printed rides) ((valid.connections leg.exit.0 within).to_in, early))

  -- by a start leg and the choices
  pub from_printed : (first : Option Leg) → ((leg : Leg) → first ≡ Some leg → leg.exit.0 < count n) → (p x : ℕ) → IsPrinted p x
      → FailsPrinted (unfold_from n q.target.0 choice first p x)
  from_printed first within p x is = grind (arith, by_test, or_stuck, after_printed)

-- the place where one may fail first has a name, and the moment a text
pub unsafe_has_site : (p : Problem) (q : Query) (graph : PlanGraph) → IsFit p.timetable.network q graph
    → q.source.0 < length p.timetable.network.change → q.target.0 < length p.timetable.network.change
    → q.start.0 ≤ last_start → (place moment : ℕ) → IsUnsafe p.timetable.network q (unfold_plan graph p.timetable.network q) place moment
    → (place < length p.timetable.names.places) × (moment ≤ last_printable)
unsafe_has_site p q graph fit source target early place moment unsafe =
    let n = p.timetable.network in
    let chosen : (leg : Leg) (x : ℕ) (next : Leg) → by_place n (pick_at graph.tables) leg x ≡ Some next
    → next.exit.0 < count n = λ leg x next is. (picked_leg n graph.tables fit.tables (end_of n leg) x next is).exit in
    let first : (leg : Leg) → graph.start ≡ Some leg → leg.exit.0 < count n = λ leg is. (MatchOption-at_some _ _ _ is fit.starts).is_leg.exit in
    let printed = from_printed n p.timetable.valid q target (by_place n (pick_at graph.tables)) chosen graph.start first q.source.0 q.start.0
    (source, omega (arith, early)) place moment unsafe.first.fails in
    (subst (λ (k : ℕ). place < k) (sym p.timetable.fit.places) printed.0, printed.1)

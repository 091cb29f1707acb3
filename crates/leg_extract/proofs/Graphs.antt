-- The graph of the rides that a scan's choices reach.
use Rattle.std.proofs.Common.{arith, ◌≡◌, ◌≢◌, ℕ, List, [], map, Option, Some, Contains, sym, subst, refl, inl, inr, ◌∙◌, ap, ◌==◌, if◌then◌else◌, MatchOption, option_map, ne_eqb, eq-eqb}
use Rattle.std.proofs.lemmas.{Bool.cases_eq, List.Elements.All-contains}
use Rattle.plan_model.specs.{declared.model.{Leg.Leg, Query.Query}, Network.{NetworkModel, IsValid, arr_of}, Tree.Tree, Strategy.IsSafeFor, Ways.IsKept, Unfold.{end_of, arrival_of, outcomes_of}}
use Rattle.plan_model.specs.Unfold.{by_place}
use Rattle.plan_model.proofs.Lists.{All-from_contains}
use Rattle.plan_graph.specs.{declared.{GraphRow.GraphRow, Ride.Ride}, Ready.{IsLegOf, Stands}, Coherent.{Follows, IsSteady}, Walked.IsWalked}
use Rattle.plan_graph.proofs.{Tables.{table_away, table_there, by_for}, Graphs.{IsKeptAfter, ready, busy, table_of_ride, picks_taken}}
use Rattle.value_laws.specs.ScoreLaws.{Scoring}
use Rattle.meat_scan.specs.{ScanResult.{ScanResult, choice_of, leg_choice, chosen_by}, Solves.{HasAnswers, SolvesEach, IsSafeAt}}
use Rattle.leg_extract.specs.Extracted.{IsExtracted, HasArrivals}

module _ {V : Type 0} {scoring : Scoring V} (n : NetworkModel) (q : Query) (found : ScanResult V) (answers : HasAnswers scoring n q found) where
  steady_by : (place arrival : ℕ) (leg : Leg) (choice : Option (V × Leg))
      → MatchOption choice ((tree : Tree) → IsSafeAt n q place arrival tree → ⊥) (SolvesEach scoring n q found place arrival)
      → option_map (λ c. c.1) choice ≡ Some leg → IsKept n (leg_choice found) place arrival leg
  steady_by place arrival leg choice answer is = grind arith

  -- what is chosen is kept
  pub steady : IsSteady n q.target.0 (leg_choice found)
  steady place arrival leg away is = steady_by place arrival leg (choice_of found place arrival) (answers.goes_on place arrival away) is

  pub safe_start : (start : V × Leg) → found.start ≡ Some start → IsSafeFor n q (chosen_by n q found start.1)
  safe_start start is = grind arith

  module _ (valid : IsValid n) (differ : q.source.0 ≢ q.target.0) (start : V × Leg) (starts : found.start ≡ Some start) (rides : List Ride)
      (walked : IsWalked n q (by_place n (leg_choice found)) start.1 rides) where
    abbrev target : ℕ
    target = q.target.0

    abbrev choice : Leg → ℕ → Option Leg
    choice = by_place n (leg_choice found)

    kept_after : (leg : Leg) → IsKeptAfter n target choice leg
    kept_after leg away o has next is =
        let k = steady (end_of n leg) (arrival_of n leg o.delay) next away is in
        grind arith

    start_leg : IsLegOf n start.1
    start_leg = grind (arith, All-contains)

    has_arrivals : (r : Ride) → Contains rides r → HasArrivals n target r
    has_arrivals r there =
        let os = outcomes_of n r.leg in
        let arrivals = map (λ o. arrival_of n r.leg o.delay) os in
        let table = table_of_ride n valid q choice start.1 rides walked r there in
        elim (cases_eq (end_of n r.leg) target) [
          | inl is ↦ grind (arith, eq-eqb, table_there)
          | inr away ↦
              let right : (if end_of n r.leg == target then [] else arrivals) ≡ arrivals = rw (ne_eqb (end_of n r.leg) target away) refl in
              ap (λ (list : List GraphRow). map (λ row. row.by.0) list) (table ∙ table_away n target choice r.leg away)
              ∙ by_for (choice r.leg) (arr_of n r.leg.exit.0) os (λ o has. let t = walked.taken r there away o has in (t.next, t.is_chosen))
              ∙ sym right
        ]

    follows : Follows n target (leg_choice found) (record { start = Some start.1; rides = rides })
    follows r there away o outcome =
        let t = walked.taken r there away o outcome in
        (t.next, picks_taken n valid q choice start.1 rides walked r there away o outcome, t.is_chosen)

    pub extracted : IsExtracted n q found start.1 (record { start = Some start.1; rides = rides })
    extracted = record {
      starts = refl;
      unfolds = walked.unfolds;
      ready = ready n valid q choice start.1 rides walked differ start_leg (q.deadline.0, safe_start start starts) (λ r there. kept_after r.leg);
      busy = busy n valid q choice start.1 rides walked;
      whole = λ leg there. walked.whole leg (subst (λ (tree : Tree). Stands leg tree) walked.unfolds there);
      arrivals = All-from_contains (HasArrivals n target) rides has_arrivals;
      follows = follows;
      steady = steady;
    }

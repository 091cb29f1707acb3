-- What is said of a gate is said of its source in the network.
use Rattle.departure_table.proofs.Common.{◌≡◌, ℕ, zero, ◌≤◌, arith, Option, List, [], ◌∷◌, true, refl, MatchOption, nat_le, ◌↔◌, nat_tests, Query, Moment, NetworkModel, IsGate, IsValid, count}
use Rattle.departure_table.proofs.Common.{Tree, DepartureRow, IsASecondAway, SafeAfter, SafeFrom, IsNoneSafeFrom, IsBestFrom, IsTable, IsGreatestMoment, IsExtendedFor, SaysOfSource}
use Rattle.plan_model.proofs.{Views.{seen, leg_there}, GateTrees.{gate_there, gate_back}}

-- a table has no row exactly where nothing is safe from the first moment on
module _ (m : NetworkModel) (Safe : ℕ → Tree → Type 0) (first last : ℕ) (order : first ≤ last) where
  empty_exactly : (rows : List DepartureRow) → IsTable m Safe first last rows → (rows ≡ []) ↔ IsNoneSafeFrom Safe first
  empty_exactly [] t = ((λ same. t.answers first (omega arith) order), (λ none. refl))
  empty_exactly (row ∷ rows) t =
      let by = t.from_first zero row (omega arith) in
      let test : nat_le first row.by.0 ≡ true = grind (arith, nat_tests) in
      grind arith

-- answers for one kind of safety are answers for the same kind in other words
module _ (n m : NetworkModel) (S T : ℕ → Tree → Type 0) (many : count n ≡ count m)
    (to : (moment : ℕ) (tree : Tree) → 1 ≤ moment → S moment tree → T moment tree) (from : (moment : ℕ) (tree : Tree) → 1 ≤ moment → T moment tree → S moment tree) where
  best_reported : (moment : ℕ) (row : DepartureRow) → 1 ≤ moment → IsBestFrom n S moment row → IsBestFrom m T moment row
  best_reported moment row some b = grind arith

  pub answer_reported : (moment : ℕ) (o : Option DepartureRow) → 1 ≤ moment → MatchOption o (IsNoneSafeFrom S moment) (IsBestFrom n S moment)
      → MatchOption o (IsNoneSafeFrom T moment) (IsBestFrom m T moment)
  answer_reported moment o some none = grind (arith, best_reported)

  pub greatest_reported : (first : ℕ) (o : Option Moment) → 1 ≤ first → IsGreatestMoment S first o → IsGreatestMoment T first o
  greatest_reported first o some none = grind arith

-- from a gate everything is a second away
pub second_away : (n m : NetworkModel) (gate source : ℕ) → IsGate n m gate source → IsValid m → IsASecondAway n gate
second_away n m gate source g v i seconds less way = grind (arith, seen)

module _ (n : NetworkModel) (q : Query) (m : NetworkModel) (source : ℕ) (e : IsExtendedFor n q m source) where
  pub to_source : (moment : ℕ) (tree : Tree) → 1 ≤ moment → SafeAfter n q moment tree → SafeFrom m source q moment tree
  to_source moment tree some safe = grind (arith, gate_there)

  pub from_source : (moment : ℕ) (tree : Tree) → 1 ≤ moment → SafeFrom m source q moment tree → SafeAfter n q moment tree
  from_source moment tree some safe = grind (arith, gate_back)

  table_reported : (first last : ℕ) (rows : List DepartureRow) → 1 ≤ first → IsTable n (SafeAfter n q) first last rows → IsTable m (SafeFrom m source q) first last rows
  table_reported first last rows some t = grind (arith, answer_reported, to_source, from_source, leg_there, seen)

  empty_reported : (first last : ℕ) (rows : List DepartureRow) → 1 ≤ first → first ≤ last → IsTable n (SafeAfter n q) first last rows → (rows ≡ []) ↔ IsNoneSafeFrom (SafeFrom m source q) first
  empty_reported first last rows some order t = empty_exactly m (SafeFrom m source q) first last order rows (table_reported first last rows some t)

  pub says : SaysOfSource n q m source
  says = record {
    second = second_away n m q.source.0 source e.gate e.valid;
    empty_exactly = empty_reported;
    tables = table_reported;
    greatest = λ first result some g. greatest_reported n m (SafeAfter n q) (SafeFrom m source q) e.gate.view.as_many to_source from_source first result some g;
  }

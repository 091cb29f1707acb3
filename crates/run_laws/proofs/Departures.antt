-- The departures of a query follow from the problem.
use Rattle.run_laws.proofs.Common.{◌≡◌, ℕ, ◌+◌, List, [], ◌∷◌, Option, sym, subst, refl, inl, inr, arith, cases_eq, Query, NetworkModel, one_found, Problem, Findings, AreDepartures}
use Rattle.run_laws.proofs.{Common.{AnswersDepartures, IsOneAnswer}, OneOrder.one_order}
use Rattle.value_laws.specs.declared.MeanSpan.{MeanSpan}
use Rattle.meat_scan.specs.ScanResult.{ScanResult}
use Rattle.departure_table.specs.{declared.DepartureRow.DepartureRow, Looked.{asked_at, row_found, AreLooked}}
use Rattle.plan_model.specs.Gates.{extended_by}
use Rattle.journey_answers.specs.Departures.{IsRuled, AreByRules, added_query}

-- rows that are looked up in the same way are the same
one_looked : (look : ℕ → Option DepartureRow) (last next : ℕ) (xs ys : List DepartureRow) → AreLooked look last next xs → AreLooked look last next ys → xs ≡ ys
one_looked look last next [] [] a b = refl
one_looked look last next [] (y ∷ ys) (inl late) b = absurd (omega (arith, late, b.0))
one_looked look last next [] (y ∷ ys) (inr none) b = let found = b.1 in absurd (cc)
one_looked look last next (x ∷ xs) [] a (inl late) = absurd (omega (arith, late, a.0))
one_looked look last next (x ∷ xs) [] a (inr none) = let found = a.1 in absurd (cc)
one_looked look last next (x ∷ xs) (y ∷ ys) a b = grind (arith, one_found, one_looked look last (x.by.0 + 1) xs ys a.2)

-- what the rules give at a place and a moment is one row
pub found_at : (n : NetworkModel) (q : Query) (a b : ScanResult MeanSpan) → IsRuled n q a → IsRuled n q b → (place next : ℕ) → row_found n (asked_at q place) a next ≡ row_found n (asked_at q place) b next
found_at n q a b is other place next = grind (arith, one_order n is.order other.order is.is_order other.is_order)

module _ (p : Problem) (q : Query) (last : ℕ) where
  one_by_rules : (xs ys : List DepartureRow) → AreByRules p q last xs → AreByRules p q last ys → xs ≡ ys
  one_by_rules xs ys is other =
      let n = extended_by p.timetable.network (q.source ∷ []) in
      let asked = added_query p.timetable.network q in
      let same = found_at n asked is.found other.found is.ruled other.ruled asked.source.0 in
      one_looked (row_found n asked is.found) last q.start.0 xs ys is.looked
      (subst (λ (look : ℕ → Option DepartureRow). AreLooked look last q.start.0 ys) (λ i next. sym (same next) i) other.looked)

  one_departures : (xs ys : List DepartureRow) → AreDepartures p q last xs → AreDepartures p q last ys → xs ≡ ys
  one_departures xs ys is other = grind (arith, cases_eq, one_by_rules)

  pub one_departures_answer : (found others : Findings) (text other : List ℕ) → AnswersDepartures p q last found text → AnswersDepartures p q last others other
      → IsOneAnswer found others text other
  one_departures_answer found others text other (rows, is, departures, safe, text_is) (more, is_other, departures_other, safe_other, text_other) =
      grind (arith, one_departures rows more departures departures_other)

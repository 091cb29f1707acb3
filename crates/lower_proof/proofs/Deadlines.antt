-- The deadline of a certificate that is read has a text.
use Rattle.lower_proof.proofs.Common.{◌≡◌, ℕ, ◌≤◌, List, Option, Some, Ok, subst, ap, sym, ◌∙◌, nat_le, last_printable, header, require-ok, Query, NetworkModel, NameLists, field, whole_at}
use Rattle.lower_proof.proofs.Common.{number_of, arith, is_query, if-value, BoundsRow, bounds_numbers, is_bounds, bounds_row_in, bounds_in, IsProofReported}
use Rattle.clock_text.specs.Times.{moment_at}
use Rattle.clock_text.proofs.{OneText.{if_cases, some_cases}, Range.moment_range}
use Rattle.plan_model.specs.declared.model.Moment.{Moment}

by_numbers : (a b c : Option ℕ) (x : BoundsRow) → bounds_numbers a b c ≡ Some x → b ≡ Some x.deadline.0
by_numbers a b c x is = grind (arith, some_cases, nat_le)

-- the deadline of a first row
row_deadline : (names : NameLists) (source target start : ℕ) (r : List (List ℕ)) (y : BoundsRow) → bounds_in names source target start r ≡ Ok y → y.deadline.0 ≤ last_printable
row_deadline names source target start r y is =
    let x = require-ok (bounds_row_in r) _ _ y is in
    let from = require-ok (number_of names.places (field r 2)) _ _ y x.2 in
    let to = require-ok (number_of names.places (field r 3)) _ _ y from.2 in
    let asked = if-value (is_query from.0 to.0 x.0.start.0 source target start) _ _ y to.2 in
    let same : x.0 ≡ y = (cc) in
    let numbers = (if_cases (is_bounds r) (bounds_numbers (moment_at (field r 4)) (moment_at (field r 5)) (whole_at (field r 6))) x.0 x.1).1 in
    moment_range (field r 5) y.deadline.0 (by_numbers (moment_at (field r 4)) (moment_at (field r 5)) (whole_at (field r 6)) x.0 numbers ∙ ap (λ (b : BoundsRow). Some b.deadline.0) same)

-- the deadline of a query that a text gives
pub reported_deadline : (n : NetworkModel) (names : NameLists) (source target start : ℕ) (t : List (List (List ℕ))) (q : Query) (values : List (Option ℕ))
    → IsProofReported n names source target start t q values → q.deadline.0 ≤ last_printable
reported_deadline n names source target start t q values is =
    subst (λ (m : Moment). m.0 ≤ last_printable) (sym is.until) (row_deadline names source target start (header t) is.bounds is.head)

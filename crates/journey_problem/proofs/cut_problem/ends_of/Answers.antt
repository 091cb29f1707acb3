-- Whether the stops of a journey are among the names.
use Rattle.journey_problem.proofs.Common.{arith, ◌≡◌, ℕ, zero, suc, List, [], ◌∷◌, Option, Some, None, unwrap_or, Bool, true, false, Contains, refl, slice_get, bytes_eq, UnknownStop, is_among}
use Rattle.journey_problem.proofs.Common.{stop_fault, first_which}
use Rattle.std.proofs.{Math.Bool.or-true, lemmas.{Slice.Eq.bytes_eq-Decides, Map.Views.Contains-from_any}}
use Rattle.journey_problem.proofs.cut_problem.ends_of.Goals as goal
use Rattle.journey_model.specs.declared.faults.Which.TheVariants as which

among-at : (names : List (List ℕ)) (k : ℕ) (name : List ℕ) → slice_get names k ≡ Some name → is_among names name ≡ true
among-at [] k name is = absurd (cc)
among-at (x ∷ names) zero name is = grind (arith, bytes_eq-Decides)
among-at (x ∷ names) (suc k) name is = rw (among-at names k name is) (or-true (bytes_eq name x))

among-false : (names : List (List ℕ)) (name : List ℕ) (b : Bool) → is_among names name ≡ b → ¬ Contains names name → is_among names name ≡ false
among-false names name true e absent = absurd (absent (Contains-from_any {eq = bytes_eq} (λ x y. (bytes_eq-Decides x y).0) name names e))
among-false names name false e absent = e

among-absent : (names : List (List ℕ)) (name : List ℕ) → ¬ Contains names name → is_among names name ≡ false
among-absent names name absent = among-false names name (is_among names name) refl absent

pub stop_fault-from : (names : List (List ℕ)) (from : Option (List ℕ)) (to : List ℕ) → ¬ Contains names (unwrap_or from to) → stop_fault names from to ≡ Some (UnknownStop (first_which from))
stop_fault-from names from to absent = rw (among-absent names (unwrap_or from to) absent) refl

pub stop_fault-to : (names : List (List ℕ)) (from : Option (List ℕ)) (to : List ℕ) (k : ℕ) → slice_get names k ≡ Some (unwrap_or from to) → ¬ Contains names to → stop_fault names from to ≡ Some (UnknownStop which.To)
stop_fault-to names from to k there absent = rw (among-at names k (unwrap_or from to) there, among-absent names to absent) refl

pub stop_fault-none : (names : List (List ℕ)) (from : Option (List ℕ)) (to : List ℕ) (k j : ℕ) → slice_get names k ≡ Some (unwrap_or from to) → slice_get names j ≡ Some to → stop_fault names from to ≡ None
stop_fault-none names from to k j there here = rw (among-at names k (unwrap_or from to) there, among-at names j to here) refl

pub returns-in_default-clause-fault : goal.returns-in_default-clause-fault
returns-in_default-clause-fault c = grind (arith, stop_fault-from)

pub returns-in_default-place-clause-fault : goal.returns-in_default-place-clause-fault
returns-in_default-place-clause-fault c = grind (arith, stop_fault-to)

pub returns-clause-none : goal.returns-clause-none
returns-clause-none c = grind (arith, stop_fault-none)

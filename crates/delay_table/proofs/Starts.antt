-- The outcomes of one group, one more at a time.
use Rattle.std.proofs.lemmas.Grind.{common_steps}
use Rattle.delay_table.proofs.Common.{cases_Bool, ◌≡◌, ◌+◌, ◌-◌, ◌<◌, ◌≤◌, Bool, true, false, List, [], ◌∷◌, ◌++◌, length, slice_get, slice_index_or, Option, Some, None, if◌then◌else◌, refl, sym}
use Rattle.delay_table.proofs.Common.{subst, arith, ⊎_elim, length-append, append-nil, zero, suc, ℕ, IfSome, add-one, ap, ◌∙◌, cases_lt, leb-false, ltb-true, All-push, slice_get-get_or}
use Rattle.delay_table.proofs.Common.{all_pairs_push, Outcome, seconds_per_day, DelayFault, Group, same_group, Line, fault_after, fault_of, delay_rises, of_group, group_outcomes, line_fault}
use Rattle.delay_table.proofs.{Common.{IsGroupStart, first_below, field, RouteId, none-each}, GroupFacts.same-equal, LineFacts.{IsFormed, formed_at}, ReadFacts.outcomes-next}
use Rattle.delay_table.specs.Delays.{line_at}

none_cases : (a b : Bool) (x y : DelayFault) → (if a then Some x else if b then None else Some y) ≡ None → (a ≡ false) × (b ≡ true)
none_cases a b x y h = grind (arith, cases_Bool a, cases_Bool b)

-- the last delay is below one that delay_rises
rises_last : (r : List Outcome) (delay : ℕ) (d : Outcome) → delay_rises (slice_get r (length r - 1)) delay ≡ true → 0 < length r → (slice_index_or r (length r - 1) d).delay < delay
rises_last r delay d h some = grind (arith, slice_get-get_or, ltb-true)

-- and so is each
rises_each : (r : List Outcome) (delay : ℕ) → IsGroupStart r → delay_rises (slice_get r (length r - 1)) delay ≡ true → (k : ℕ) (d : Outcome) → k < length r → (slice_index_or r k d).delay < delay
rises_each r delay s h k d l =
    let last = rises_last r delay d h (omega arith) in
    ⊎_elim (λ (before : k < length r - 1). omega (arith, s.rising k (length r - 1) d before (omega arith), last))
    (λ (end : length r - 1 ≤ k).
    let same : length r - 1 ≡ k = omega arith in
    let P : ℕ → Type 0 = λ i. (slice_index_or r i d).delay < delay in subst P same last)
    (cases_lt k (length r - 1))

-- one more row with no fault
start_next : (r : List Outcome) (line : Line) (number : ℕ) → IsGroupStart r → fault_after r line number ≡ None → line.outcome.delay ≤ seconds_per_day
    → 1 ≤ line.outcome.weight → IsGroupStart (r ++ line.outcome ∷ [])
start_next r line number s none d w = grind (arith, common_steps, none_cases, slice_get, leb-false, length-append, all_pairs_push, rises_each, All-push)

start_if : (b : Bool) (r : List Outcome) (o : Outcome) → IsGroupStart r → (b ≡ true → IsGroupStart (r ++ o ∷ [])) → IsGroupStart (r ++ (if b then o ∷ [] else []))
start_if b r o s h = grind (arith, cases_Bool b, append-nil)

start_line : (t : List (List (List ℕ))) (n : ℕ) (group : Group) (o : Option Line) → ((g : Group) → IsGroupStart (group_outcomes t n g))
    → fault_of (group_outcomes t n) o (n + 2) ≡ None → IfSome o (IsFormed (field t RouteId n)) → IsGroupStart (group_outcomes t n group ++ of_group group o)
start_line t n group None s none form = absurd (cc)
start_line t n group (Some line) s none form =
    start_if (same_group line.group group) (group_outcomes t n group) line.outcome (s group)
    (λ same. let P : Group → Type 0 = λ g. IsGroupStart (group_outcomes t n g ++ line.outcome ∷ []) in
    subst P (same-equal line.group group same) (start_next (group_outcomes t n line.group) line (n + 2) (s line.group) none form.delay form.weight))

start_empty : IsGroupStart []
start_empty = record { few = omega arith; rising = λ i j d less inside. absurd (omega arith); delays = λ k d inside. absurd (omega arith); weights = λ k d inside. absurd (omega arith) }

no_outcomes : (t : List (List (List ℕ))) (group : Group) → group_outcomes t 0 group ≡ []
unfolding group_outcomes
no_outcomes t group = refl

row_fault : (t : List (List (List ℕ))) (n : ℕ) → line_fault t n ≡ None → fault_of (group_outcomes t n) (line_at t n) (n + 2) ≡ None
unfolding line_fault
row_fault t n h = h

starts_to : (t : List (List (List ℕ))) (n : ℕ) → ((k : ℕ) → k < n → line_fault t k ≡ None) → (group : Group) → IsGroupStart (group_outcomes t n group)
starts_to t zero h group = subst IsGroupStart (sym (no_outcomes t group)) start_empty
starts_to t (suc n) h group =
    let e : group_outcomes t (suc n) group ≡ group_outcomes t n group ++ of_group group (line_at t n) = ap (λ m. group_outcomes t m group) (sym (add-one n)) ∙ outcomes-next t n group in
    subst IsGroupStart (sym e)
    (start_line t n group (line_at t n) (starts_to t n (λ k l. h k (omega arith))) (row_fault t n (h n (omega arith))) (formed_at t n))

-- the outcomes of each group of rows without a fault
pub starts : (t : List (List (List ℕ))) (n : ℕ) → first_below (line_fault t) n ≡ None → (group : Group) → IsGroupStart (group_outcomes t n group)
starts t n h = starts_to t n (none-each (line_fault t) n h)

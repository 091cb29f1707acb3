-- The fault of a row after the row before it in its run, by the keys.
use Rattle.cut_file.proofs.Common.{cases_Bool, ◌≡◌, ℕ, ◌+◌, ◌<◌, ◌==◌, nat_lt, Bool, true, false, not, ◌&&◌, ◌||◌, List, length, Option, Some, None, if◌then◌else◌, sym, ap, ap₂, ◌∙◌, subst}
use Rattle.cut_file.proofs.Common.{arith, bytes_eq, first_below, any_below, row_count, Key, key_at, IsBefore, any-same, before_inside, asked, asked_before, CutRow, CutFault, Backward, Broken}
use Rattle.cut_file.proofs.{Common.{row, cut_precedes, cut_just_precedes, repeated_step, run_fault, cut_row, run_of, step_of, fault_after, IsCutRead}, Distinct.same_name, Repeats.one_place_name}
use Rattle.cut_file.proofs.Repeats.{run_is, step_is, apart}

-- the fault by the two tests
abbrev fault_by : Bool → Bool → ℕ → Option CutFault
fault_by back broken line = if back then Some (Backward line) else if broken then Some (Broken line) else None

alone : (a : Bool) (line : ℕ) → fault_by (a || false) false line ≡ (if a then Some (Backward line) else None)
alone a line = grind (arith, cases_Bool a)

with_last : (a q r : Bool) (line : ℕ) → fault_by (a || q) (not r) line ≡ (if a then Some (Backward line) else if q then Some (Backward line) else if r then None else Some (Broken line))
with_last a q r line = grind (arith, cases_Bool a, cases_Bool q, cases_Bool r)

module _ (t : List (List (List ℕ))) (runs places : List (List ℕ)) (rows : List CutRow) (keys : List Key) (r : IsCutRead t runs places rows keys)
    (none : first_below (repeated_step t) (row_count t) ≡ None) where
  ahead : ℕ → ℕ → Bool
  ahead j i = (run_of rows j == run_of rows i) && nat_lt (step_of rows j) (step_of rows i)

  ahead_is : (j i : ℕ) → j < row_count t → i < row_count t → cut_precedes t j i ≡ ahead j i
  unfolding ahead
  ahead_is j i l h = ap₂ (λ x y. x && y) (run_is t runs places rows keys r j i l h) (ap₂ nat_lt (step_is t runs places rows keys r j l) (step_is t runs places rows keys r i h))

  just : ℕ → ℕ → ℕ → Bool
  just m j i = ahead j i && not (any_below (λ k. ahead j k && ahead k i) m)

  just_is : (j i : ℕ) → j < row_count t → i < row_count t → cut_just_precedes t j i ≡ just (row_count t) j i
  unfolding just
  just_is j i l h = grind (arith, not, ahead_is, any-same, ahead)

  inside : (k : ℕ) → k < length keys → (key_at keys k).row < row_count t
  inside k h = omega (arith, r.sorted.inside k h, r.size)

  -- what is asked of the rows just before a row is asked of the row of the key before
  asked_is : (k : ℕ) → k < length keys → (o : Option Key) → IsBefore keys k o → (q : ℕ → Bool) → any_below (λ j. cut_just_precedes t j (key_at keys k).row && q j) (row_count t) ≡ asked q o
  unfolding just ahead
  asked_is k h o b q =
      let i = (key_at keys k).row in
      let P : ℕ → Type 0 = λ m. any_below (λ j. just m j i && q j) m ≡ asked q o in
      any-same (λ j. cut_just_precedes t j i && q j) (λ j. just (row_count t) j i && q j) (row_count t) (λ j l. ap (λ x. x && q j) (just_is j i l (inside k h)))
      ∙ subst P r.size (asked_before (λ i. true) (run_of rows) (step_of rows) (length rows) keys r.sorted (apart t runs places rows keys r none) k h o b q)

  pub misfit_is : (k : ℕ) → k < length keys → (o : Option Key) → IsBefore keys k o → run_fault t (key_at keys k).row ≡ fault_after rows o (key_at keys k).row
  unfolding run_fault
  misfit_is k h None b =
      let i = (key_at keys k).row in
      let a = r.each i (inside k h) in
      let back : nat_lt (row t i).arr (row t i).dep ≡ nat_lt (cut_row rows i).arr (cut_row rows i).dep = ap₂ nat_lt (sym a.arr) (sym a.dep) in
      ap₂ (λ x y. fault_by x y (i + 2))
      (ap₂ (λ x y. x || y) back (asked_is k h None b (λ j. nat_lt (row t i).dep (row t j).arr)))
      (asked_is k h None b (λ j. not (bytes_eq (row t i).from (row t j).to)))
      ∙ alone (nat_lt (cut_row rows i).arr (cut_row rows i).dep) (i + 2)
  misfit_is k h (Some before) b =
      let i = (key_at keys k).row in
      let j = before.row in
      let a = r.each i (inside k h) in
      let c = r.each j (omega (arith, r.size, before_inside (λ i. true) (run_of rows) (step_of rows) (length rows) keys r.sorted k h (Some before) b)) in
      let back : nat_lt (row t i).arr (row t i).dep ≡ nat_lt (cut_row rows i).arr (cut_row rows i).dep = ap₂ nat_lt (sym a.arr) (sym a.dep) in
      let late : nat_lt (row t i).dep (row t j).arr ≡ nat_lt (cut_row rows i).dep (cut_row rows j).arr = ap₂ nat_lt (sym a.dep) (sym c.arr) in
      let joined = same_name places (one_place_name t runs places rows keys r) (cut_row rows i).from (cut_row rows j).to (row t i).from (row t j).to a.from c.to in
      ap₂ (λ x y. fault_by x y (i + 2))
      (ap₂ (λ x y. x || y) back (asked_is k h (Some before) b (λ j. nat_lt (row t i).dep (row t j).arr) ∙ late))
      (asked_is k h (Some before) b (λ j. not (bytes_eq (row t i).from (row t j).to)) ∙ ap not joined)
      ∙ with_last (nat_lt (cut_row rows i).arr (cut_row rows i).dep) (nat_lt (cut_row rows i).dep (cut_row rows j).arr) ((cut_row rows i).from == (cut_row rows j).to) (i + 2)

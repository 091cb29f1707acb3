-- The rows of a table by the keys of their runs and steps, and the first step that is repeated.
use Rattle.cut_file.proofs.Common.{◌≡◌, ℕ, ◌+◌, ◌<◌, ◌==◌, Bool, true, List, length, Option, Some, None, option_map, if◌then◌else◌, sym, ap, ◌∙◌, subst, arith, AreDistinct, first_below}
use Rattle.cut_file.proofs.Common.{row_count, Key, key_at, AreSorted, has_twin, twin_at, any-same, first-same, first-reported, AreApart, no_twins, rises, CutRow, CutFault, DuplicateStep, row}
use Rattle.cut_file.proofs.{Common.{same_run, repeated_step, run_of, step_of, IsCutRead}, Distinct.{runs_distinct, places_distinct, same_name}}

module _ (t : List (List (List ℕ))) (runs places : List (List ℕ)) (rows : List CutRow) (keys : List Key) (r : IsCutRead t runs places rows keys) where
  pub one_run : AreDistinct runs
  one_run = subst AreDistinct (sym r.run_names) (runs_distinct t (row_count t))

  pub one_place_name : AreDistinct places
  one_place_name = subst AreDistinct (sym r.place_names) (places_distinct t (row_count t))

  -- runs are compared by their numbers
  pub run_is : (j i : ℕ) → j < row_count t → i < row_count t → same_run t j i ≡ (run_of rows j == run_of rows i)
  run_is j i l h = same_name runs one_run (run_of rows j) (run_of rows i) (row t j).run (row t i).run (r.each j l).run (r.each i h).run

  pub step_is : (i : ℕ) → i < row_count t → (row t i).step ≡ step_of rows i
  step_is i h = sym (r.each i h).step

  reported : Bool → ℕ → Option CutFault
  reported b i = if b then Some (DuplicateStep (i + 2)) else None

  twins : ℕ → Option CutFault
  twins i = if has_twin (run_of rows) (step_of rows) i then Some (DuplicateStep (i + 2)) else None

  repeat_is : first_below (repeated_step t) (row_count t) ≡ first_below twins (row_count t)
  unfolding repeated_step reported twins
  repeat_is = grind (arith, first-same, twins, reported, any-same, run_is, step_is)

  pub apart : first_below (repeated_step t) (row_count t) ≡ None → AreApart (run_of rows) (step_of rows) (length rows)
  unfolding twins
  apart none =
      let P : ℕ → Type 0 = AreApart (run_of rows) (step_of rows) in
      subst P (sym r.size) (no_twins (λ i. DuplicateStep (i + 2)) (run_of rows) (step_of rows) (row_count t) (sym repeat_is ∙ none))

  -- the fault of the first row with a twin
  pub repeats_first : (found : Option ℕ) → ((group order : ℕ → ℕ) (count : ℕ) → AreSorted (λ i. true) group order count keys → first_below (twin_at group order) count ≡ found)
      → first_below (repeated_step t) (row_count t) ≡ option_map (λ i. DuplicateStep (i + 2)) found
  unfolding twins twin_at
  repeats_first found h =
      repeat_is
      ∙ first-reported (λ i. DuplicateStep (i + 2)) (has_twin (run_of rows) (step_of rows)) (row_count t)
      ∙ ap (λ n. option_map (λ i. DuplicateStep (i + 2)) (first_below (twin_at (run_of rows) (step_of rows)) n)) (sym r.size)
      ∙ ap (option_map (λ i. DuplicateStep (i + 2))) (h (run_of rows) (step_of rows) (length rows) r.sorted)

  -- where no step is repeated, the steps of a run rise
  pub steps_rise : first_below (repeated_step t) (row_count t) ≡ None → (k m : ℕ) → k < m → m < length keys → (key_at keys k).group ≡ (key_at keys m).group
      → (key_at keys k).order < (key_at keys m).order
  steps_rise none = rises (λ i. true) (run_of rows) (step_of rows) (length rows) keys r.sorted (apart none)

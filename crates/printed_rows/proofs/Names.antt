-- The names of a network's places and runs in printed rows.
use Rattle.printed_rows.proofs.Common.{◌≡◌, ℕ, ◌<◌, length, Some, arith, decimal, trimmed_text, NetworkModel, NameLists, NamesFit, AreNames, IsValid, count, run_of, step_of, number_of, whole_at}
use Rattle.printed_rows.proofs.{Common.{place_name, run_name}, Plain.{decimal_kept, whole_back, name_back, name_kept}}

module _ (n : NetworkModel) (names : NameLists) (fit : NamesFit names n) where
  pub place_kept : (place : ℕ) → place < length n.change → trimmed_text (place_name names place) ≡ place_name names place
  place_kept place there = name_kept names.places place fit.place_names (omega (arith, there, fit.places))

  pub run_kept : (c : ℕ) → c < count n → trimmed_text (run_name names (run_of n c)) ≡ run_name names (run_of n c)
  run_kept c there = name_kept names.runs (run_of n c) fit.run_names (fit.below c there)

  module _ (own : AreNames names) where
    pub place_back : (place : ℕ) → place < length n.change → number_of names.places (place_name names place) ≡ Some place
    place_back place there = name_back names.places place own.places own.place_texts (omega (arith, there, fit.places))

    pub run_back : (c : ℕ) → c < count n → number_of names.runs (run_name names (run_of n c)) ≡ Some (run_of n c)
    run_back c there = name_back names.runs (run_of n c) own.runs own.run_texts (fit.below c there)

-- and the steps of its connections
module _ (n : NetworkModel) (valid : IsValid n) where
  pub step_kept : (c : ℕ) → c < count n → trimmed_text (decimal (step_of n c)) ≡ decimal (step_of n c)
  step_kept c there = decimal_kept (step_of n c) (omega (arith, (valid.connections c there).step_in))

  pub step_back : (c : ℕ) → c < count n → whole_at (decimal (step_of n c)) ≡ Some (step_of n c)
  step_back c there = whole_back (step_of n c) (omega (arith, (valid.connections c there).step_in))

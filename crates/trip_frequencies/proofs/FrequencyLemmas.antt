-- The rows of frequencies.
use Rattle.trip_frequencies.proofs.Common.{◌≡◌, ℕ, ◌+◌, true, List, length, Option, option_map, sym, ap, ◌∙◌, value_or, DuplicateKey, Frequencies, Key, first_below, AreSorted, has_twin, twin_at}
use Rattle.trip_frequencies.proofs.Common.{first-reported, length-list_below, TripFrequency, frequency_columns, frequency_in, frequency_at, frequency_rows, no_frequency, trip_of_row}
use Rattle.trip_frequencies.proofs.Common.{start_of_row, repeated_start}
use Rattle.trip_frequencies.specs.declared.frequencies.FrequencyColumns.{FrequencyColumns}
use Rattle.csv_rows.specs.Tables.{row_count}

-- the row by the indexes of the columns
pub frequency_is : (trips : List (List ℕ)) (t : List (List (List ℕ))) (c : FrequencyColumns) (i : ℕ) → c ≡ frequency_columns t → frequency_at trips t i ≡ frequency_in trips t c i
unfolding frequency_at
frequency_is trips t c i e = ap (λ k. frequency_in trips t k i) (sym e)

pub frequency_count : (trips : List (List ℕ)) (t : List (List (List ℕ))) → length (frequency_rows trips t) ≡ row_count t
frequency_count trips t = length-list_below (λ i. value_or no_frequency (frequency_at trips t i)) (row_count t)

-- the fault of the first row that has the trip and the start of an earlier one
pub first_repeated : (rows : List TripFrequency) (keys : List Key) (found : Option ℕ) → AreSorted (λ i. true) (trip_of_row rows) (start_of_row rows) (length rows) keys
    → ((group order : ℕ → ℕ) (count : ℕ) → AreSorted (λ i. true) group order count keys → first_below (twin_at group order) count ≡ found)
    → first_below (repeated_start rows) (length rows) ≡ option_map (λ row. DuplicateKey Frequencies (row + 2)) found
unfolding repeated_start twin_at
first_repeated rows keys found s h =
    first-reported (λ i. DuplicateKey Frequencies (i + 2)) (has_twin (trip_of_row rows) (start_of_row rows)) (length rows)
    ∙ ap (option_map (λ row. DuplicateKey Frequencies (row + 2))) (h (trip_of_row rows) (start_of_row rows) (length rows) s)

-- The index of a name in a header.
use Rattle.csv_rows.proofs.Common.{◌≡◌, ℕ, ◌<◌, false, List, [], length, slice_index_or, Option, Some, None, IfSome, IfNone, sym, bytes_eq, bytes_eq-Decides, false_from_ne_true, number_in}
use Rattle.csv_rows.proofs.FirstLemmas.{absent_by, found_by}

pub bytes_ne : (a b : List ℕ) → (a ≡ b → ⊥) → bytes_eq a b ≡ false
bytes_ne a b h = false_from_ne_true (bytes_eq a b) (λ t. h ((bytes_eq-Decides a b).0 t))

-- what a search of the header finds
pub index_is : (o : Option ℕ) (name : List ℕ) (names : List (List ℕ))
    → IfSome o (λ i. (i < length names) × (slice_index_or names i [] ≡ name))
    → IfSome o (λ i. (k : ℕ) → k < i → slice_index_or names k [] ≡ name → ⊥)
    → IfNone o ((k : ℕ) → k < length names → slice_index_or names k [] ≡ name → ⊥)
    → o ≡ number_in name names
unfolding number_in
index_is None name names found first none =
    sym (absent_by (λ k. bytes_eq (slice_index_or names k []) name) (length names) (λ k l. bytes_ne (slice_index_or names k []) name (none k l)))
index_is (Some i) name names found first none =
    sym (found_by (λ k. bytes_eq (slice_index_or names k []) name) (length names) i found.0 ((bytes_eq-Decides (slice_index_or names i []) name).1 found.1)
    (λ k l. bytes_ne (slice_index_or names k []) name (first k l)))

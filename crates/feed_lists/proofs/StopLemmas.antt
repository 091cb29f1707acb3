-- The rows of stops.
use Rattle.feed_lists.proofs.Common.{arith, ◌≡◌, ℕ, ◌<◌, List, Some, None, sym, ap, ap₂, ◌∙◌, map, length, slice_index_or, length-map, get_or-map, list_below, length-list_below, get-list_below}
use Rattle.feed_lists.proofs.Common.{StopId, first_below, name_in, row_count, field, none-each, stop_columns, stop_in, stop_at, bad_stop, parent_of, stop_ids, unknown_in, unknown_parent}
use Rattle.feed_lists.proofs.Common.{place_from, name_is, result_err-require}
use Rattle.feed_lists.specs.declared.stops.StopColumns.{StopColumns}

-- the row by the indexes of the columns
pub stop_is : (t : List (List (List ℕ))) (c : StopColumns) (i : ℕ) → c ≡ stop_columns t → stop_at t i ≡ stop_in t c i
unfolding stop_at
stop_is t c i e = ap (λ k. stop_in t k i) (sym e)

-- the values of a list that is listed by number
pub listed : {A B : Type 0} (g : A → B) (xs : List A) (f : ℕ → B) (n : ℕ) → map g xs ≡ list_below f n
    → (length xs ≡ n) × ((i : ℕ) (d : A) → i < length xs → g (slice_index_or xs i d) ≡ f i)
listed g xs f n e =
    let size : length xs ≡ n = sym (length-map xs g) ∙ ap length e ∙ length-list_below f n in (
      size,
      λ i d inside. sym (get_or-map g xs i d (f i) inside) ∙ ap (λ ys. slice_index_or ys i (f i)) e
          ∙ get-list_below f n i (f i) (omega (arith, size, inside)),
    )

-- the parent of a stop, by that of its row
pub unknown_is : (t : List (List (List ℕ))) (ids : List (List ℕ)) (parent : List ℕ) (i : ℕ) → ids ≡ stop_ids t → parent ≡ parent_of t i
    → unknown_parent t i ≡ unknown_in ids parent i
unknown_is t ids parent i e h = ap₂ (λ names name. unknown_in names name i) (sym e) (sym h)

pub place_is_from : (t : List (List (List ℕ))) (ids : List (List ℕ)) (parent : List ℕ) (i p : ℕ) → ids ≡ stop_ids t → parent ≡ parent_of t i
    → place_from ids parent i ≡ p → p ≡ place_from (stop_ids t) (parent_of t i) i
place_is_from t ids parent i p e h is = sym is ∙ ap₂ (λ names name. place_from names name i) e h

-- each stop has a name
pub stops_named : (t : List (List (List ℕ))) → first_below (bad_stop t) (row_count t) ≡ None → (i : ℕ) → i < row_count t
    → name_in (field t StopId i) ≡ Some (field t StopId i)
unfolding stop_at
stops_named t none i inside =
    let w = result_err-require _ _ _ (none-each (bad_stop t) (row_count t) none i inside) in name_is (field t StopId i) w.0 w.1

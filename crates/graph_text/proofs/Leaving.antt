-- Whether all that remains of a list passes, element by element.
use Rattle.graph_text.proofs.Common.{arith, ◌≡◌, ℕ, ◌+◌, ◌<◌, Bool, true, false, List, ◌∷◌, length, drop, ◌&&◌, slice_index_or, split_at}

-- F says whether each element of a list passes, as p says of one
module _ {X : Type 0} (F : List X → Bool) (p : X → Bool) (step : (x : X) (xs : List X) → F (x ∷ xs) ≡ (p x && F xs)) (xs : List X) (i : ℕ) (x d : X)
    (whole test : Bool) where
  by_first : i < length xs → x ≡ slice_index_or xs i d → whole ≡ F (drop i xs) → test ≡ p x → (b : Bool) → test ≡ b → whole ≡ (b && F (drop (i + 1) xs))
  by_first within at before is b reported = grind (arith, split_at)

  pub fails_at : i < length xs → x ≡ slice_index_or xs i d → whole ≡ F (drop i xs) → test ≡ p x → test ≡ false → whole ≡ false
  fails_at within at before is = by_first within at before is false

  pub passes_at : i < length xs → x ≡ slice_index_or xs i d → whole ≡ F (drop i xs) → test ≡ p x → test ≡ true → whole ≡ F (drop (i + 1) xs)
  passes_at within at before is = by_first within at before is true

-- One more piece of joined pieces.
use Rattle.feed_maker.proofs.Common.{◌≡◌, ℕ, ◌+◌, zero, suc, List, [], ◌∷◌, ◌++◌, ap, refl, ◌∙◌, arith, append_assoc, append-nil, add-one, zero-add, flat_map, joined}
use Rattle.std.proofs.lemmas.List.Concat.{flat_map-append}
use Rattle.std.specs.List.{range_with_len}

range_with_len-suc : (a n : ℕ) → range_with_len a (suc n) ≡ range_with_len a n ++ (a + n) ∷ []
range_with_len-suc a zero = let e : a ≡ a + 0 = omega arith in ap (λ k. k ∷ []) e
range_with_len-suc a (suc n) = grind (arith, range_with_len-suc (a + 1) n)

pub joined-add_one : (piece : ℕ → List ℕ) (n : ℕ) → joined piece (n + 1) ≡ joined piece n ++ piece n
unfolding joined
joined-add_one piece n =
    ap (λ k. flat_map piece (range_with_len 0 k)) (add-one n)
    ∙ ap (λ ks. flat_map piece ks) (range_with_len-suc 0 n)
    ∙ flat_map-append piece (range_with_len 0 n) ((0 + n) ∷ [])
    ∙ ap (λ text. flat_map piece (range_with_len 0 n) ++ text) (append-nil (piece (0 + n)) ∙ ap piece (zero-add n))

pub joined-zero : (piece : ℕ → List ℕ) → joined piece 0 ≡ []
unfolding joined
joined-zero piece = refl

-- the start and the step of a loop that joins pieces
pub ruleset joined_steps = (joined-zero, joined-add_one, append-nil, append_assoc)

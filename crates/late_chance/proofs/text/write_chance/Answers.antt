-- The digits of a number, from its first one on.
use Rattle.late_chance.proofs.Common.{ℕ, ◌+◌, ◌/◌, ◌%◌, List, ◌∷◌, ap, sym, certainty, ◌≡◌, zero, suc, ◌^◌, [], refl, ◌∙◌, arith, div-div-eq-div-mul, mul_comm}
use Rattle.std.proofs.lemmas.Grind.{pow_more}
use Rattle.clock_text.specs.Digits.{digits}
use Rattle.late_chance.proofs.text.write_chance.Goals as goal

-- the k last digits of a number, each by the power of ten that it counts
abbrev pub spelled : ℕ → ℕ → List ℕ
spelled zero n = []
spelled (suc zero) n = (48 + n % 10) ∷ []
spelled (suc (suc k)) n = (48 + n / 10 ^ suc k % 10) ∷ spelled (suc k) n

-- the digit before the last k ones
digits-first : (k n : ℕ) → digits (suc k) n ≡ (48 + n / 10 ^ k % 10) ∷ digits k n
digits-first zero n = let whole : n / 1 ≡ n = omega arith in rw whole refl
digits-first (suc k) n = grind (arith, mul_comm, pow_more, div-div-eq-div-mul, digits-first k (n / 10))

pub digits-spelled : (k n : ℕ) → digits k n ≡ spelled k n
digits-spelled zero n = refl
digits-spelled (suc zero) n = refl
digits-spelled (suc (suc k)) n = digits-first (suc k) n ∙ ap (λ (ds : List ℕ). (48 + n / 10 ^ suc k % 10) ∷ ds) (digits-spelled (suc k) n)

pub returns : goal.returns
returns c = sym (ap (λ (ds : List ℕ). (48 + c.args.chance / certainty % 10) ∷ 46 ∷ ds) (digits-spelled 18 c.args.chance))

-- A number of two digits.
use Rattle.feed_maker.proofs.Common.{arith, time_text, ◌≡◌, ℕ, ◌+◌, ◌/◌, ◌%◌, ◌<◌, [], ◌∷◌, two_digits}
use Rattle.std.proofs.lemmas.Fmt.{decimal_digit}
use Rattle.feed_maker.proofs.names.clock.Goals as goal

-- the tens, and the ones
pub two_digits-bytes : (n : ℕ) → n < 100 → two_digits n ≡ (48 + n / 10) ∷ (48 + n % 10) ∷ []
two_digits-bytes n small = grind (arith, decimal_digit)

pub returns : goal.returns
unfolding time_text
returns c = grind (arith, two_digits-bytes)

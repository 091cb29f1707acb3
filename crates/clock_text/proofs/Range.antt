-- Moments of a text are before the year 10000.
use Rattle.clock_text.proofs.Common.{◌≡◌, ℕ, ◌+◌, ◌*◌, ◌<◌, ◌≤◌, List, arith, subst, ℤ, pos, negsuc, ◌≤ℤ◌, Some, unsigned_abs, days_from_civil, signed_arith, days_from_civil-day_count}
use Rattle.clock_text.proofs.{Common.{day_count_bounds, Parts, parts_at, seconds_of_parts, moment_at}, DateFacts.after_epoch, OneText.{Holds, parts_hold, if_cases}}

day_small : (z : ℤ) → pos 0 ≤ℤ z → z ≤ℤ pos 2_932_896 → unsigned_abs z ≤ 2_932_896
day_small z low high = grind (arith, signed_arith, negsuc)

day_before : (p : Parts) → Holds p → unsigned_abs (days_from_civil (pos p.year) p.month p.day) ≤ 2_932_896
day_before p h = grind (arith, day_count_bounds, pos, signed_arith, day_small, after_epoch, days_from_civil-day_count)

seconds_small : (d h m s : ℕ) → d ≤ 2_932_896 → h < 24 → m < 60 → s < 60 → 86400 * d + (3600 * h + (60 * m + s)) ≤ 253_402_300_799
seconds_small d h m s a b c e = omega arith

pub moment_range : (t : List ℕ) (m : ℕ) → moment_at t ≡ Some m → m ≤ 253_402_300_799
moment_range t m is =
    let p = parts_hold (parts_at t) m (if_cases _ _ m is).1 in
    let few : seconds_of_parts (parts_at t) ≤ 253_402_300_799
    = seconds_small _ _ _ _ (day_before (parts_at t) p.0) p.0.hour p.0.minute p.0.second in
    subst (λ (k : ℕ). k ≤ 253_402_300_799) p.1 few

use Rattle.meat_scan.proofs.Common.{◌≡◌, ℕ, ◌<◌, ◌≤◌, length, get_or, [], no_profile, rows_of_profile, spare_at, capacity_at}
use Rattle.meat_scan.proofs.clear_all.Given as goal

abbrev pub invariant-loop-place : goal.invariant-loop-place
invariant-loop-place g l = record {
  len : length l.profiles ≡ length l.initial.profiles;
  empty : (place : ℕ) → place < l.place → rows_of_profile l.profiles place ≡ [];
  spare : (place : ℕ) → place < l.place → spare_at l.profiles place ≡ capacity_at l.initial.profiles place;
  rest : (place : ℕ) → l.place ≤ place → get_or l.profiles place no_profile ≡ get_or l.initial.profiles place no_profile;
}

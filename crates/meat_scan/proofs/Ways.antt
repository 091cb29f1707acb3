-- Who can board a leg: a traveller who arrives by its limit.
use Rattle.meat_scan.proofs.Common.{◌≡◌, ℕ, ◌<◌, ◌≤◌, Some, None, arith, nat_tests, common_steps, Leg, NetworkModel, count, dep_of, IsValid, limit_of, IsBoardable, way_takes, limit_of-some}

pub boards_by : (n : NetworkModel) (p x by : ℕ) (leg : Leg) → limit_of n p leg ≡ Some by → IsBoardable n p x leg.enter.0 → x ≤ by
boards_by n p x by leg is board = grind (arith, common_steps, nat_tests)

-- with no limit nobody can board
pub never_boards : (n : NetworkModel) (p x : ℕ) (leg : Leg) → limit_of n p leg ≡ None → IsBoardable n p x leg.enter.0 → ⊥
never_boards n p x leg none board = grind (arith, common_steps, nat_tests)

-- a traveller who has arrived by the limit can board
pub boards-limit_of : (n : NetworkModel) (p x by : ℕ) (leg : Leg) → limit_of n p leg ≡ Some by → x ≤ by → IsBoardable n p x leg.enter.0
boards-limit_of n p x by leg is in_time = grind (arith, common_steps, nat_tests)

-- the limit is before the departure
pub limit_of-before : (n : NetworkModel) → IsValid n → (p by : ℕ) (leg : Leg) → leg.enter.0 < count n → limit_of n p leg ≡ Some by → by < dep_of n leg.enter.0
limit_of-before n valid p by leg there is = grind (arith, limit_of-some, way_takes)

use Rattle.std.proofs.Common.{◌+◌, ◌*◌}
use Rattle.tests_strategies.proofs.strategies.+rides.Given as goal

-- after a ride one ride less may come; between rides a place is before an entry, and that before an exit
abbrev pub decreases-from_place : goal.decreases-from_place
decreases-from_place l = 3 * l.remaining + 2

abbrev pub decreases-by_entry : goal.decreases-by_entry
decreases-by_entry l = 3 * l.remaining + 1

abbrev pub decreases-by_exit : goal.decreases-by_exit
decreases-by_exit l = 3 * l.remaining

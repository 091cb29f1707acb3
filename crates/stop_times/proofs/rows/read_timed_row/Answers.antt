use Rattle.stop_times.proofs.Common.{arith}
use Rattle.stop_times.proofs.rows.read_timed_row.Goals as goal

pub returns-clause-row : goal.returns-clause-row
returns-clause-row c = grind arith

use Rattle.connections.proofs.Common.{arith}
use Rattle.delay_table.proofs.RouteFacts.{same-hour}
use Rattle.connections.proofs.window_connections.class_in_hour.Goals as goal

pub returns-clause-hour : goal.returns-clause-hour
returns-clause-hour c = λ arr same. grind (arith, same-hour)

use Rattle.std.proofs.lemmas.Grind.{common_steps}
use Rattle.late_chance.proofs.Common.{arith, map_more, connection}
use Rattle.late_chance.proofs.shift.seen_connections.Goals as goal

pub loop-id-preserved : goal.loop-id-preserved
unfolding connection
loop-id-preserved c = grind (arith, common_steps, map_more)

use Rattle.std.proofs.lemmas.Grind.{common_steps}
use Rattle.graph_text.proofs.Common.{ne_eqb, eq-eqb, arith}
use Rattle.graph_text.proofs.version.rows_leave.Goals as goal

pub returns-then-get-place : goal.returns-then-get-place
returns-then-get-place c = grind (arith, common_steps, ne_eqb)

pub loop-row-preserved : goal.loop-row-preserved
loop-row-preserved c = grind (arith, common_steps, eq-eqb)

use Rattle.connections.proofs.{Common.{sym, ◌∙◌, arith}, ReachLemmas.{has_connection_true, has_connection_false}}
use Rattle.connections.proofs.runs.has_connection.Goals as goal

pub returns-then-leaves : goal.returns-then-leaves
returns-then-leaves c = has_connection_true c.args.window c.args.rows.now c.args.origin c.loop-k.k (omega (arith, c.saturating_sub-k-end.ensures)) (sym c.leaves.ensures ∙ c.if-leaves.true)

pub returns : goal.returns
returns c = grind (arith, has_connection_false)

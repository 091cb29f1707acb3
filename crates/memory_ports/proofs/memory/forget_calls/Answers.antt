use Rattle.memory_ports.proofs.{Common.arith, Silent.{silenced, silent, same_counts}}
use Rattle.std.proofs.Math.Seq.{map-set_same}
use Rattle.memory_ports.proofs.memory.forget_calls.Goals as goal

pub loop-index-preserved : goal.loop-index-preserved
loop-index-preserved c = grind (arith, map-set_same, silenced)

pub returns-clause-calls : goal.returns-clause-calls
returns-clause-calls c = λ p call. silent c.loop-index.failing (λ k d h. c.loop-index.invariant.silent k d (omega arith)) p call

pub returns-clause-counts : goal.returns-clause-counts
returns-clause-counts c = λ p. same_counts c.args.failing.now c.loop-index.failing p c.loop-index.invariant.shapes

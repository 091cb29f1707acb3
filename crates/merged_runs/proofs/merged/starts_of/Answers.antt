use Rattle.merged_runs.proofs.{Common.arith, StartLemmas.{AreStartsBelow-start, AreStartsBelow-within, AreStarts-from_below}, merged.starts_of.Goals.{then-get-len+in_ok-push, else-get-len}}
use Rattle.merged_runs.proofs.merged.starts_of.Goals as goal

pub loop-i-preserved : goal.loop-i-preserved
loop-i-preserved c = grind (arith, then-get-len+in_ok-push, AreStartsBelow-start, else-get-len, AreStartsBelow-within)

pub returns : goal.returns
returns c = grind (arith, AreStarts-from_below)

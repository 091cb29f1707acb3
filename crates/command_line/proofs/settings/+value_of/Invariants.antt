use Rattle.command_line.proofs.Common.{length}
use Rattle.command_line.proofs.settings.+value_of.Given as goal

abbrev pub decreases-value_of : goal.decreases-value_of
decreases-value_of l = length l.settings.now

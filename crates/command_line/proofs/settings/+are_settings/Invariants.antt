use Rattle.command_line.proofs.Common.{length}
use Rattle.command_line.proofs.settings.+are_settings.Given as goal

abbrev pub decreases-are_settings : goal.decreases-are_settings
decreases-are_settings l = length l.settings.now

use Rattle.late_chance.proofs.Rounded.{no_chance}
use Rattle.late_chance.proofs.no_chance_by_the_deadline.Goals as goal

pub returns : goal.returns
returns c = no_chance

use Rattle.run_laws.proofs.Departing.{by_worst}
use Rattle.run_laws.proofs.commands.latest_ends_by_the_least_worst.Goals as goal

pub returns : goal.returns
returns c = by_worst

use Rattle.run_laws.proofs.Departing.{alike}
use Rattle.run_laws.proofs.commands.latest_ends_as_departures.Goals as goal

pub returns : goal.returns
returns c = alike

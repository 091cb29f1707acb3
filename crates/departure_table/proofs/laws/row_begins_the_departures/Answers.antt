use Rattle.departure_table.proofs.SameGates.{first_departure}
use Rattle.departure_table.proofs.laws.row_begins_the_departures.Goals as goal

pub returns : goal.returns
returns c = λ m q place x y last v fit fit_too target soon. first_departure m v q place x y last fit fit_too target soon

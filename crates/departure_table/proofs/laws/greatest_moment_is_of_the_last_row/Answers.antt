use Rattle.departure_table.proofs.Latest.{of_last_row}
use Rattle.departure_table.proofs.laws.greatest_moment_is_of_the_last_row.Goals as goal

pub returns : goal.returns
returns c = of_last_row

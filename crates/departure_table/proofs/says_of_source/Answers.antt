use Rattle.departure_table.proofs.Sources.{says}
use Rattle.departure_table.proofs.says_of_source.Goals as goal

pub returns : goal.returns
returns c = says

use Rattle.service_days.proofs.{Common.arith, ReadLemmas.of_dates}
use Rattle.service_days.proofs.tables.load_dates.Goals as goal

pub returns-clause-sound : goal.returns-clause-sound
returns-clause-sound g c = grind (arith, of_dates)

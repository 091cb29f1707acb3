use Rattle.service_days.proofs.{Common.arith, ReadLemmas.of_calendar}
use Rattle.service_days.proofs.tables.load_calendar.Goals as goal

pub returns-clause-sound : goal.returns-clause-sound
returns-clause-sound g c = grind (arith, of_calendar)

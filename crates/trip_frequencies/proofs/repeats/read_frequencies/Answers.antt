use Rattle.trip_frequencies.proofs.{Common.arith, FrequencyLemmas.frequency_count}
use Rattle.trip_frequencies.proofs.repeats.read_frequencies.Goals as goal

pub check_once-requires : goal.check_once-requires
check_once-requires c = grind (arith, frequency_count)

pub returns-clause-few : goal.returns-clause-few
returns-clause-few c = grind (arith, frequency_count)

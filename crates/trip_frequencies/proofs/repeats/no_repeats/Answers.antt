use Rattle.trip_frequencies.proofs.Common.{arith, list_below-zero}
use Rattle.trip_frequencies.proofs.repeats.no_repeats.Goals as goal

pub returns-clause-repeats : goal.returns-clause-repeats
returns-clause-repeats c = grind (arith, list_below-zero)

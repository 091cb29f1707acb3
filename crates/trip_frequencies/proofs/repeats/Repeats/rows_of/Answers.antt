use Rattle.trip_frequencies.proofs.{Common.arith, RepeatLemmas.repeats_in-span}
use Rattle.trip_frequencies.proofs.repeats.Repeats.rows_of.Goals as goal

pub returns : goal.returns
returns c = grind (arith, repeats_in-span)

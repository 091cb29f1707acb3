use Rattle.feed_maker.proofs.Common.{arith}
use Rattle.std.proofs.lemmas.Option.{slice_get-get_or}
use Rattle.feed_maker.proofs.stop_times.add_run.Goals as goal

pub add_stop_time-requires-clause-end : goal.add_stop_time-requires-clause-end
add_stop_time-requires-clause-end c = grind (arith, slice_get-get_or)

use Rattle.feed_maker.proofs.StopTimeLemmas.{remaining_first}
use Rattle.feed_maker.proofs.stop_times.StopTimes.rewind.Goals as goal

pub returns-clause-remaining : goal.returns-clause-remaining
returns-clause-remaining c = remaining_first c.args.self.now.lines.count c.extend_from_slice.new.self.items (cc (c.extend_from_slice.ensures.items, c.clear.ensures.items, c.as_bytes.ensures.value, c.unwrap.ensures))

use Rattle.stop_times.proofs.Common.{◌≡◌, ◌+◌, length}
use Rattle.stop_times.proofs.records.Records.count.Given as goal

abbrev pub invariant-loop-count : goal.invariant-loop-count
invariant-loop-count l = l.count + length l.self ≡ length l.initial.self

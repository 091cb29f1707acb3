use Rattle.std.proofs.Common.{◌≡◌, ℕ, ◌<◌, length, get_or, None}
use Rattle.trip_exit.proofs.ExitTable.clear.Given as goal

abbrev pub invariant-loop-run : goal.invariant-loop-run
invariant-loop-run g l = record {
  len : length l.self-inside.kept.items ≡ length l.fn.self;
  none : (run : ℕ) → run < l.run → get_or l.self-inside.kept.items run None ≡ None;
}

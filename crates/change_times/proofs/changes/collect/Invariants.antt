use Rattle.change_times.proofs.Common.{◌≡◌, None, bad_transfer, AreCollected}
use Rattle.csv_rows.specs.Lists.{first_below}
use Rattle.change_times.proofs.changes.collect.Given as goal

abbrev pub invariant-loop-i : goal.invariant-loop-i
invariant-loop-i l = record {
  reported : AreCollected l.feed l.rows l.i l.reported;
  none : first_below (bad_transfer l.feed l.rows) l.i ≡ None;
}

use Rattle.service_days.proofs.Common.{◌≡◌, ◌≤◌, ◌+◌, length, None, All, IsTrimmed, first_below, bad_date, AreNumbered}
use Rattle.service_days.proofs.exceptions.read_rows.Given as goal

abbrev pub invariant-loop-i : goal.invariant-loop-i
invariant-loop-i l = record {
  none : first_below (bad_date l.rows) l.i ≡ None;
  numbered : AreNumbered l.rows l.i l.fn.services l.services l.exceptions.keys;
  trimmed : All IsTrimmed l.services;
  room : length l.fn.services ≤ length l.services;
  few : length l.services ≤ length l.fn.services + l.i;
}

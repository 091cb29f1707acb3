use Rattle.late_chance.proofs.Common.{◌≡◌, map, take, later_row}
use Rattle.late_chance.proofs.shift.later_rows.Given as goal

abbrev pub invariant-loop-row : goal.invariant-loop-row
invariant-loop-row l = l.later.items ≡ map (later_row l.seconds) (take l.row-index l.rows)

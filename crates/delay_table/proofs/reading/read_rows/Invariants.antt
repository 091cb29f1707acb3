use Rattle.delay_table.proofs.Common.{◌≡◌, None, first_below, line_fault, IsReadTo}
use Rattle.delay_table.proofs.reading.read_rows.Given as goal

abbrev pub invariant-loop-i : goal.invariant-loop-i
invariant-loop-i l = (first_below (line_fault l.table.rows.now) l.i ≡ None) × IsReadTo l.table.rows.now l.i l.reading.groups l.reading.rows.items

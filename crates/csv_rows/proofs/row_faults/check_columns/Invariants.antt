use Rattle.csv_rows.proofs.Common.{◌≡◌, drop, first_missing}
use Rattle.csv_rows.proofs.row_faults.check_columns.Given as goal

abbrev pub invariant-loop-i : goal.invariant-loop-i
invariant-loop-i l = first_missing l.table l.rows l.required ≡ first_missing l.table l.rows (drop l.i l.required)

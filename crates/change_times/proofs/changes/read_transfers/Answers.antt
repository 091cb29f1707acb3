use Rattle.change_times.proofs.Common.{match_raised, fault-first, reports-then, transfers_fault, arith}
use Rattle.change_times.proofs.changes.read_transfers.Goals as goal

pub returns-in_err-check_columns-clause-reports : goal.returns-in_err-check_columns-clause-reports
unfolding transfers_fault
returns-in_err-check_columns-clause-reports c = grind (arith, match_raised, fault-first)

pub returns-clause-reports : goal.returns-clause-reports
unfolding transfers_fault
returns-clause-reports c = reports-then _ _ _ c.read_rows.result c.in_ok-check_columns.ensures c.read_rows.ensures.reports

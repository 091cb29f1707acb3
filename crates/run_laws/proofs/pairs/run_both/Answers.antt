use Rattle.run_laws.proofs.Agreed.{agree}
use Rattle.run_laws.proofs.pairs.run_both.Goals as goal

pub returns : goal.returns
returns g c = agree _ _ _ c.run-report.ensures c.run-other.ensures c.files_have_one_problem.ensures c.saving_elsewhere_keeps_own_files.ensures
    c.read_fault_is_by_rows.ensures c.journeys_to_a_stop_have_one_timetable.ensures

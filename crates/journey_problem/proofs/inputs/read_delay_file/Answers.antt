use Rattle.journey_problem.proofs.{Common.{file_at, IfSome_then, if_raised}, TableSteps.{delays_none, delays_first}}
use Rattle.journey_problem.proofs.inputs.read_delay_file.Goals as goal

pub returns-in_err-rows-clause-early : goal.returns-in_err-rows-clause-early
returns-in_err-rows-clause-early g c = λ timetable. if_raised _ c.from_residual.result c.from_residual.ensures (c.in_err-rows.ensures.early timetable tt)

pub returns-in-Ok-clause-table : goal.returns-in-Ok-clause-table
returns-in-Ok-clause-table g c = IfSome_then (g.F.Files.state c.args.files.now).files c.in_ok-rows.ensures.table (λ m ok.
    delays_none c.args.limits.now (file_at m c.args.path.now) c.in_ok-rows.rows ok c.in-Ok.table c.in-Ok.ensures.none c.in-Ok.ensures.table)

pub returns-clause-table : goal.returns-clause-table
returns-clause-table g c = let is = c.fault_of_delays.ensures in IfSome_then (g.F.Files.state c.args.files.now).files c.in_ok-rows.ensures.table (λ m ok.
    delays_first c.args.limits.now (file_at m c.args.path.now) c.in_ok-rows.rows ok c.in-Err.fault c.fault_of_delays.result is.fault is.memory is.read c.in-Err.ensures.fault)

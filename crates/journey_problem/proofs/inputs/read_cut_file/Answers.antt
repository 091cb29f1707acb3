use Rattle.journey_problem.proofs.{Common.{file_at, CutFile, IfSome_then, if_raised}, TableSteps.{cut_of_some, cut_none, cut_first}}
use Rattle.journey_problem.proofs.inputs.read_cut_file.Goals as goal

pub returns-in_err-rows-clause-early : goal.returns-in_err-rows-clause-early
returns-in_err-rows-clause-early g c = if_raised _ c.from_residual.result c.from_residual.ensures (c.in_err-rows.ensures.early (CutFile c.args.path.now) tt)

pub returns-in-Ok-clause-table : goal.returns-in-Ok-clause-table
returns-in-Ok-clause-table g c = IfSome_then (g.F.Files.state c.args.files.now).files c.in_ok-rows.ensures.table (λ m ok.
    cut_none c.args.limits.now (file_at m c.args.path.now) c.in_ok-rows.rows ok c.in-Ok.table c.in-Ok.ensures.none c.in-Ok.ensures.table)

pub returns-clause-table : goal.returns-clause-table
returns-clause-table g c = let is = c.fault_of_cut.ensures in IfSome_then (g.F.Files.state c.args.files.now).files c.in_ok-rows.ensures.table (λ m ok.
    cut_first c.args.limits.now (file_at m c.args.path.now) c.in_ok-rows.rows ok c.in-Err.fault c.fault_of_cut.result is.fault is.read c.in-Err.ensures.fault)

pub returns-clause-early : goal.returns-clause-early
returns-clause-early g c = c.fault_of_cut.ensures.early c.args.path.now

pub returns-in-Ok-clause-sound : goal.returns-in-Ok-clause-sound
returns-in-Ok-clause-sound g c = let text = c.in_ok-rows.ensures.text in
    cut_of_some c.in_ok-rows.rows c.in-Ok.table text.0 c.args.limits.now.cut_rows text.1 c.args.limits.now.cut_rows_in c.in-Ok.ensures.none c.in-Ok.ensures.table

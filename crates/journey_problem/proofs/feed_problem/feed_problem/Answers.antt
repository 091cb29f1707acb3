use Rattle.journey_problem.proofs.Common.{◌∙◌, ap, inl, inr, IfOk-weaker, IfErr-weaker, FeedFolder, journey_shown, path_by, gtfs_folder_of, feed_as, IfSome_then}
use Rattle.journey_problem.proofs.{Loads.if_some_any, Causes.causes-then, FeedSteps.if_some_both}
use Rattle.journey_model.specs.declared.faults.Input.TheVariants as input
use Rattle.journey_problem.proofs.feed_problem.feed_problem.Goals as goal

pub returns-in-Ok-clause-problem : goal.returns-in-Ok-clause-problem
returns-in-Ok-clause-problem g c =
    if_some_both (g.F.Files.state c.args.files.now).files (g.F.Files.state c.read_folder.new.files).files c.in-Ok.ensures.reads.causes.same c.in-Ok.ensures.reads.found c.problem_in.ensures.problem
    (λ m is all. IfOk-weaker c.problem_in.result _ _ (λ p one. one c.args.folder.now is) all)

pub returns-in-Ok-clause-fault : goal.returns-in-Ok-clause-fault
returns-in-Ok-clause-fault g c =
    if_some_both (g.F.Files.state c.args.files.now).files (g.F.Files.state c.read_folder.new.files).files c.in-Ok.ensures.reads.causes.same c.in-Ok.ensures.reads.found c.problem_in.ensures.fault
    (λ m is later. IfErr-weaker c.problem_in.result _ _ (λ fault why other. inr (gtfs_folder_of c.in-Ok.tables, is, why other)) later)

pub returns-in-Ok-clause-causes : goal.returns-in-Ok-clause-causes
returns-in-Ok-clause-causes g c = λ own.
    causes-then {path = path_by (FeedFolder c.args.folder.now c.args.horizon.value) (journey_shown c.args.journey.now) own}
    input.Delays c.problem_in.result (λ table is. is)
    c.in-Ok.ensures.reads.causes c.problem_in.ensures.causes c.problem_in.ensures.own

pub returns-in-Ok-clause-early : goal.returns-in-Ok-clause-early
returns-in-Ok-clause-early g c = c.problem_in.ensures.early c.args.folder.now

pub returns-in-Ok-clause-timetable : goal.returns-in-Ok-clause-timetable
returns-in-Ok-clause-timetable g c = c.problem_in.ensures.timetable

pub returns-in-Err-clause-early : goal.returns-in-Err-clause-early
returns-in-Err-clause-early g c = c.fault_of.ensures.early c.args.folder.now c.args.horizon.value

pub returns-in-Err-clause-problem : goal.returns-in-Err-clause-problem
returns-in-Err-clause-problem g c = if_some_any (g.F.Files.state c.args.files.now).files _ (λ m. tt)

pub returns-in-Err-clause-fault : goal.returns-in-Err-clause-fault
returns-in-Err-clause-fault g c = let is = c.fault_of.ensures.fault in
    IfSome_then (g.F.Files.state c.args.files.now).files c.in-Err.ensures.reads.found (λ m why other. inl (c.in-Err.fault, is, why (λ same. other (is ∙ ap (feed_as c.args.limits.now) same))))

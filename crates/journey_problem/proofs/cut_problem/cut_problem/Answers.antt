use Rattle.journey_problem.proofs.{Common.{IfOk-weaker, IfErr-weaker, CutFile, journey_shown, path_by}, Causes.causes-then, FeedSteps.if_some_both}
use Rattle.journey_model.specs.declared.faults.Input.TheVariants as input
use Rattle.journey_problem.proofs.cut_problem.cut_problem.Goals as goal

pub returns-in-Ok-clause-problem : goal.returns-in-Ok-clause-problem
returns-in-Ok-clause-problem g c =
    if_some_both (g.F.Files.state c.args.files.now).files (g.F.Files.state c.read_cut_file.new.files).files c.in-Ok.ensures.causes.same c.in-Ok.ensures.table c.problem_after.ensures.problem
    (λ m has all. IfOk-weaker c.problem_after.result _ _ (λ p one. one c.args.path.now has) all)

pub returns-in-Ok-clause-fault : goal.returns-in-Ok-clause-fault
returns-in-Ok-clause-fault g c =
    if_some_both (g.F.Files.state c.args.files.now).files (g.F.Files.state c.read_cut_file.new.files).files c.in-Ok.ensures.causes.same c.in-Ok.ensures.table c.problem_after.ensures.fault
    (λ m has all. IfErr-weaker c.problem_after.result _ _ (λ fault one. one c.args.path.now has) all)

pub returns-in-Ok-clause-causes : goal.returns-in-Ok-clause-causes
returns-in-Ok-clause-causes g c = λ own. causes-then {path = path_by (CutFile c.args.path.now) (journey_shown c.args.journey.now) own}
    input.Delays c.problem_after.result (λ input is. is) c.in-Ok.ensures.causes c.problem_after.ensures.causes c.problem_after.ensures.own

pub returns-in-Ok-clause-early : goal.returns-in-Ok-clause-early
returns-in-Ok-clause-early g c = c.problem_after.ensures.early (CutFile c.args.path.now)

use Rattle.journey_problem.proofs.{Common.{journey_shown, IfSome_then}, Causes.causes-quiet, CutSteps.{cut_timetable, cut_file_problem, stop_first, delay_first}, FeedSteps.none_unread_of}
use Rattle.journey_model.specs.declared.faults.Input.TheVariants as input
use Rattle.journey_problem.proofs.cut_problem.problem_after.Goals as goal

pub returns-in-Err-clause-fault : goal.returns-in-Err-clause-fault
returns-in-Err-clause-fault g c = IfSome_then (g.F.Files.state c.args.files.now).files c.in-Err.ensures.table (λ m first path has.
    delay_first c.args.limits.now m path (journey_shown c.args.journey.now) c.args.cut.now c.in-Err.fault has c.in-Err.ensures.own first)

pub returns-in-Ok-clause-problem : goal.returns-in-Ok-clause-problem
returns-in-Ok-clause-problem g c = let is = c.problem_in.ensures in IfSome_then (g.F.Files.state c.args.files.now).files c.in-Ok.ensures.table (λ m delays.
    cut_file_problem (journey_shown c.args.journey.now) c.args.cut.now c.in-Ok.delays c.args.limits.now m c.problem_in.result delays is.network is.source is.target is.none)

pub returns-in-Ok-clause-fault : goal.returns-in-Ok-clause-fault
returns-in-Ok-clause-fault g c = IfSome_then (g.F.Files.state c.args.files.now).files c.in-Ok.ensures.table (λ m delays.
    stop_first (journey_shown c.args.journey.now) c.args.cut.now c.in-Ok.delays c.args.limits.now m c.problem_in.result delays.0 c.problem_in.ensures.fault c.problem_in.ensures.read)

pub returns-in-Ok-clause-timetable : goal.returns-in-Ok-clause-timetable
returns-in-Ok-clause-timetable g c = let is = c.problem_in.ensures in
    cut_timetable (journey_shown c.args.journey.now) c.args.cut.now c.in-Ok.delays c.problem_in.result c.requires.sound c.in-Ok.ensures.sound is.network is.source is.target

pub returns-in-Ok-clause-own : goal.returns-in-Ok-clause-own
returns-in-Ok-clause-own g c = none_unread_of input.Delays c.problem_in.result c.problem_in.ensures.read

pub returns-in-Ok-clause-causes : goal.returns-in-Ok-clause-causes
returns-in-Ok-clause-causes g c = causes-quiet c.in-Ok.delays c.problem_in.result c.in-Ok.ensures.causes c.problem_in.ensures.read

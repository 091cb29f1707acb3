use Rattle.journey_problem.proofs.{Common.{inl, FeedFolder, journey_shown, gtfs_folder_of, IfSome_then}, Causes.causes-quiet, FeedSteps.{feed_timetable, window_fault, window_problem, none_unread_of}}
use Rattle.journey_model.specs.declared.faults.Input.TheVariants as input
use Rattle.journey_problem.proofs.feed_problem.problem_in.Goals as goal

pub returns-in-Err-clause-fault : goal.returns-in-Err-clause-fault
returns-in-Err-clause-fault g c = IfSome_then (g.F.Files.state c.args.files.now).files c.in-Err.ensures.table (λ m first other. inl (first other))

pub returns-in-Err-clause-early : goal.returns-in-Err-clause-early
returns-in-Err-clause-early g c = λ folder. c.in-Err.ensures.early (FeedFolder folder c.args.horizon.value)

pub returns-in-Ok-clause-problem : goal.returns-in-Ok-clause-problem
returns-in-Ok-clause-problem g c = let is = c.window_problem.ensures in IfSome_then (g.F.Files.state c.args.files.now).files c.in-Ok.ensures.table (λ m delays.
    window_problem c.args.limits.now m c.args.horizon.value (journey_shown c.args.journey.now) (gtfs_folder_of c.args.tables.now) c.in-Ok.delays delays.0 delays.1 c.window_problem.result
    is.network is.no_window_fault is.source is.target)

pub returns-in-Ok-clause-fault : goal.returns-in-Ok-clause-fault
returns-in-Ok-clause-fault g c = IfSome_then (g.F.Files.state c.args.files.now).files c.in-Ok.ensures.table (λ m delays.
    window_fault c.args.limits.now m c.args.horizon.value (journey_shown c.args.journey.now) (gtfs_folder_of c.args.tables.now) c.in-Ok.delays delays.0 delays.1 c.window_problem.result
    c.window_problem.ensures.fault)

pub returns-in-Ok-clause-timetable : goal.returns-in-Ok-clause-timetable
returns-in-Ok-clause-timetable g c = let is = c.window_problem.ensures in
    feed_timetable c.args.horizon.value (journey_shown c.args.journey.now) (gtfs_folder_of c.args.tables.now) c.in-Ok.delays
    c.window_problem.result c.requires.sound c.in-Ok.ensures.sound is.network is.source is.target

pub returns-in-Ok-clause-own : goal.returns-in-Ok-clause-own
returns-in-Ok-clause-own g c = none_unread_of input.Delays c.window_problem.result c.window_problem.ensures.read

pub returns-in-Ok-clause-causes : goal.returns-in-Ok-clause-causes
returns-in-Ok-clause-causes g c = causes-quiet c.in-Ok.delays c.window_problem.result c.in-Ok.ensures.causes c.window_problem.ensures.read

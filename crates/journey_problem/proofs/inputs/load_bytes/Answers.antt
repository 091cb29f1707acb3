use Rattle.journey_problem.proofs.{Common.{refl, file_at, causes-of}, Loads.{if_some_any, bytes_of-unread}}
use Rattle.journey_problem.proofs.inputs.load_bytes.Goals as goal

pub returns-in-Err-Read-clause-bytes : goal.returns-in-Err-Read-clause-bytes
returns-in-Err-Read-clause-bytes g c =
    if_some_any (g.F.Files.state c.args.files.now).files _ (λ m memory. bytes_of-unread c.args.limits.now.bytes c.args.input (file_at m c.args.path.now))

pub returns-in-Err-Read-clause-early : goal.returns-in-Err-Read-clause-early
returns-in-Err-Read-clause-early g c = λ timetable own. own

pub returns-in-Err-TooLong-clause-early : goal.returns-in-Err-TooLong-clause-early
returns-in-Err-TooLong-clause-early g c = λ timetable own. own

pub returns-in-Ok-None-clause-early : goal.returns-in-Ok-None-clause-early
returns-in-Ok-None-clause-early g c = λ timetable own. own

pub returns-in-Err-Read-clause-causes : goal.returns-in-Err-Read-clause-causes
returns-in-Err-Read-clause-causes g c = causes-of (λ input is. (tt, c.in-Err-Read.field-0-is, refl)) (λ _ is. (c.args.input, refl)) c.in-Err-Read.ensures.causes

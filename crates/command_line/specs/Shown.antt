-- A job by what it says.
use Rattle.std.specs.Prelude.{Result, Ok, Err, option_map}
use Rattle.command_line.specs.{declared.job.{WordsFault.WordsFault, Source.Source, Journey.Journey, Ask.Ask, Job.Job}, Jobs.{SourceModel, CutFile, FeedFolder}}
use Rattle.command_line.specs.Jobs.{JourneyModel, AskModel, Safe, Expand, Plan, Replay, Certify, CheckProof, CheckGraph, Punctual, Departures, Latest, Reach}
use Rattle.command_line.specs.Jobs.{JobModel, Ask as Asks, Sample, late_in}
use Rattle.command_line.specs.declared.job.Source.TheVariants as source
use Rattle.command_line.specs.declared.job.Ask.TheVariants as ask
use Rattle.command_line.specs.declared.job.Job.TheVariants as job

abbrev pub source_shown : Source → SourceModel
source_shown (source.Cut path) = CutFile path.now
source_shown (source.Feed folder horizon) = FeedFolder folder.now horizon.value

abbrev pub journey_shown : Journey → JourneyModel
journey_shown j = record { timetable = source_shown j.timetable; delays = j.delays.now; from = option_map (λ name. name.now) j.from; to = j.to.now; start = j.start.moment.0 }

abbrev pub ask_shown : Ask → AskModel
ask_shown (ask.Safe alpha) = Safe alpha.value
ask_shown (ask.Expand alpha) = Expand alpha.value
ask_shown (ask.Plan alpha) = Plan alpha.value
ask_shown (ask.Replay graph late) = Replay graph.now (late_in late.now)
ask_shown (ask.Certify alpha) = Certify alpha.value
ask_shown (ask.CheckProof proof) = CheckProof proof.now
ask_shown (ask.CheckGraph graph) = CheckGraph graph.now
ask_shown (ask.Punctual alpha promise) = Punctual alpha.value promise.0
ask_shown (ask.Departures until last) = Departures until.0 last.0
ask_shown (ask.Latest until) = Latest until.0
ask_shown (ask.Reach until) = Reach until.0

abbrev pub wanted_job : Job → JobModel
wanted_job (job.Journey j a) = Asks (journey_shown j) (ask_shown a)
wanted_job (job.Sample size) = Sample size.value

-- an answer by what it says
abbrev pub answer_shown : Result Job WordsFault → Result JobModel WordsFault
answer_shown (Ok job) = Ok (wanted_job job)
answer_shown (Err fault) = Err fault

-- The jobs that words ask for, the moments that they may name, and the words of each.
use Rattle.std.specs.Prelude.{ℕ, List, [], ◌∷◌, Option, Some, None, Result, Ok, Err, if◌then◌else◌, option_map, option_and_then, unwrap_or, find, ◌≤◌, ◌+◌}
use Rattle.plan_model.specs.Bounds.{least_size}
use Rattle.command_line.specs.declared.options.{Command.Command, OptionName.{OptionName, TheVariants.{Cut, Feed, Delays, From, To, Alpha, Horizon, Graph}}}
use Rattle.command_line.specs.declared.{options.OptionName.TheVariants.{Late, Size, Proof, Until, Last}, job.WordsFault.{WordsFault, TheVariants.Line}}
use Rattle.command_line.specs.declared.{job.WordsFault.TheVariants.{UnknownCommand, NotUsed, Missing, BadValue}, values.TheConstants.LONGEST_PROMISE}
use Rattle.command_line.specs.{Options.{all_options, option_number, command_named}, Settings.{value_of, text_of, are_settings}, Uses.{is_useless, is_missing}}
use Rattle.command_line.specs.Values.{default_alpha, default_horizon, start_of, promise_at, later_at, alpha_at, horizon_at, size_at, late_at}
use Rattle.command_line.specs.Values.{is_bad, last_until}
use Rattle.command_line.specs.declared.options.Command.TheVariants as command

-- where the connections come from: a cut file, or the folder of a feed, with the hours of departures that are looked at
pub data SourceModel : Type 0 where
  CutFile : (path : List ℕ) → SourceModel
  FeedFolder : (folder : List ℕ) (horizon : ℕ) → SourceModel

-- a journey over a timetable: the path of the delays, the stop where it begins, unless what is asked is about each of them, the
-- stop where it ends, and its start
pub record JourneyModel : Type 0 where
  pub timetable : SourceModel
  pub delays : List ℕ
  pub from : Option (List ℕ)
  pub to : List ℕ
  pub start : ℕ

-- what is asked about a journey: the least worst arrival and the deadline, a decision graph ride by ride or by place, each by
-- a percentage for the deadline; the trip by the graph of this path, with these delays; a certificate, by a percentage for the
-- deadline; whether that of this path holds; the bounds of the graph of this path; the graph with the least chance of an arrival after a promised moment, by a
-- percentage for the deadline; what each departure up to a last moment promises, by this deadline; the latest moment at which
-- one can leave, by this deadline; or the same for each place
pub data AskModel : Type 0 where
  Safe : (alpha : ℕ) → AskModel
  Expand : (alpha : ℕ) → AskModel
  Plan : (alpha : ℕ) → AskModel
  Replay : (graph : List ℕ) (late : List ℕ) → AskModel
  Certify : (alpha : ℕ) → AskModel
  CheckProof : (proof : List ℕ) → AskModel
  CheckGraph : (graph : List ℕ) → AskModel
  Punctual : (alpha : ℕ) (promise : ℕ) → AskModel
  Departures : (until : ℕ) (last : ℕ) → AskModel
  Latest : (until : ℕ) → AskModel
  Reach : (until : ℕ) → AskModel

-- what the words ask for: something about a journey, or the plan of one over a timetable that is made
pub data JobModel : Type 0 where
  Ask : (journey : JourneyModel) (ask : AskModel) → JobModel
  Sample : (size : ℕ) → JobModel

-- the moment by which one has promised to be there
abbrev pub promise_of : List (List ℕ) → ℕ
promise_of settings = unwrap_or (promise_at settings) (start_of settings)

-- the moment of an option
abbrev pub later_of : List (List ℕ) → OptionName → ℕ
later_of settings option = unwrap_or (later_at settings option) (start_of settings)

-- the percentage of the deadline, 200 unless it is given
abbrev pub alpha_of : List (List ℕ) → ℕ
alpha_of settings = unwrap_or (option_and_then alpha_at (value_of settings Alpha)) default_alpha

-- the hours of the window, 24 unless they are given
abbrev pub horizon_of : List (List ℕ) → ℕ
horizon_of settings = unwrap_or (option_and_then horizon_at (value_of settings Horizon)) default_horizon

abbrev pub size_of : List (List ℕ) → ℕ
size_of settings = unwrap_or (option_and_then size_at (value_of settings Size)) least_size

-- the delays of a text that has their form
abbrev pub late_in : List ℕ → List ℕ
late_in text = unwrap_or (late_at text) []

abbrev pub source_by : Option (List ℕ) → ℕ → List ℕ → SourceModel
source_by None horizon cut = CutFile cut
source_by (Some folder) horizon cut = FeedFolder folder horizon

abbrev pub source_of : List (List ℕ) → SourceModel
source_of settings = source_by (value_of settings Feed) (horizon_of settings) (text_of settings Cut)

abbrev pub journey_of : List (List ℕ) → JourneyModel
journey_of settings = record {
  timetable = source_of settings;
  delays = text_of settings Delays;
  from = value_of settings From;
  to = text_of settings To;
  start = start_of settings;
}

-- the stop where the journey begins; where it has none its target, from which there is nothing to be asked
abbrev pub source_or_target : JourneyModel → List ℕ
source_or_target j = unwrap_or j.from j.to

-- the graph of a path is checked where one is given, and else the certificate of one
abbrev pub check_by : Option (List ℕ) → List ℕ → AskModel
check_by None proof = CheckProof proof
check_by (Some graph) proof = CheckGraph graph

abbrev pub check_of : List (List ℕ) → AskModel
check_of settings = check_by (value_of settings Graph) (text_of settings Proof)

-- what a command asks about a journey, if it is about one
abbrev pub ask_of : Command → List (List ℕ) → Option AskModel
ask_of command.Safe settings = Some (Safe (alpha_of settings))
ask_of command.Expand settings = Some (Expand (alpha_of settings))
ask_of command.Plan settings = Some (Plan (alpha_of settings))
ask_of command.Replay settings = Some (Replay (text_of settings Graph) (late_in (text_of settings Late)))
ask_of command.Certify settings = Some (Certify (alpha_of settings))
ask_of command.Check settings = Some (check_of settings)
ask_of command.Punctual settings = Some (Punctual (alpha_of settings) (promise_of settings))
ask_of command.Departures settings = Some (Departures (later_of settings Until) (later_of settings Last))
ask_of command.Latest settings = Some (Latest (later_of settings Until))
ask_of command.Reach settings = Some (Reach (later_of settings Until))
ask_of command.Sample settings = None

abbrev pub wanted_by : Option AskModel → List (List ℕ) → JobModel
wanted_by None settings = Sample (size_of settings)
wanted_by (Some ask) settings = Ask (journey_of settings) ask

abbrev pub wanted_of : Command → List (List ℕ) → JobModel
wanted_of command settings = wanted_by (ask_of command settings) settings

-- the refusal that the least option calls for, if one does
abbrev pub refusal : (ℕ → WordsFault) → Option OptionName → Option WordsFault
refusal fault option = option_map (λ o. fault (option_number o)) option

abbrev pub unless_refused : Option WordsFault → Result JobModel WordsFault → Result JobModel WordsFault
unless_refused None next = next
unless_refused (Some fault) next = Err fault

-- the job of a command with its settings: first each option is used, then none is missing, then each value is of
-- its form
abbrev pub job_by : Option Command → List (List ℕ) → Result JobModel WordsFault
job_by None settings = Err UnknownCommand
job_by (Some command) settings =
    unless_refused (refusal NotUsed (find (is_useless command settings) all_options))
    (unless_refused (refusal Missing (find (is_missing command settings) all_options))
    (unless_refused (refusal BadValue (find (is_bad settings) all_options))
    (Ok (wanted_of command settings))))

-- what the words ask for, or the first fault
abbrev pub job_of : List (List ℕ) → Result JobModel WordsFault
job_of [] = Err Line
job_of (command ∷ settings) = if are_settings settings then job_by (command_named command) settings else Err Line

-- a deadline, or the last moment of departures, is not before the start, and is at most 2400-12-31T23:59:59
abbrev pub IsLater : ℕ → ℕ → Type 0
IsLater start moment = (start ≤ moment) × (moment ≤ last_until)

-- what is asked about a journey that begins at this moment names moments within reach of it; a promise is at most a week after it
abbrev pub IsInTime : ℕ → AskModel → Type 0
IsInTime start (Safe alpha) = Unit {0}
IsInTime start (Expand alpha) = Unit {0}
IsInTime start (Plan alpha) = Unit {0}
IsInTime start (Replay graph late) = Unit {0}
IsInTime start (Certify alpha) = Unit {0}
IsInTime start (CheckProof proof) = Unit {0}
IsInTime start (CheckGraph graph) = Unit {0}
IsInTime start (Punctual alpha promise) = (start ≤ promise) × (promise ≤ start + LONGEST_PROMISE)
IsInTime start (Departures until last) = IsLater start until × IsLater start last
IsInTime start (Latest until) = IsLater start until
IsInTime start (Reach until) = IsLater start until

-- so does a job
abbrev pub IsJobInTime : JobModel → Type 0
IsJobInTime (Ask j a) = IsInTime j.start a
IsJobInTime (Sample size) = Unit {0}

-- The faults of a journey's timetable, of its delays, of its stops and of its window.
use Rattle.std.specs.Prelude.{◌≡◌, ◌≢◌}
use Rattle.csv_rows.specs.declared.limits.Limits.{Limits}
use Rattle.journey_model.specs.declared.faults.{Input.Input, LimitKind.{LimitKind, TheVariants.{Bytes, Rows, CutRows, Connections, Entries}}, Fault.Fault}
use Rattle.journey_model.specs.declared.faults.Fault.TheVariants.{Words, Feed, Cut, Missing, Delays, UnknownStop, Limit, Read, NoSafe, GraphFile, Replay}
use Rattle.journey_model.specs.declared.faults.Fault.TheVariants.{ProofFile, ProofFails, Unsafe, Write, NoMemory}
use Rattle.command_line.specs.Jobs.{SourceModel, CutFile, FeedFolder}
use Rattle.journey_problem.specs.{InputTables.cut_as, FeedProblems.feed_as}
use Rattle.delay_table.specs.declared.faults.DelayFault.TheVariants as delay
use Rattle.journey_model.specs.declared.faults.Input.TheVariants as input

-- the timetable is a cut file
abbrev pub IsOfCutFile : SourceModel → Type 0
IsOfCutFile (CutFile path) = Unit {0}
IsOfCutFile (FeedFolder folder horizon) = ⊥

-- the timetable is that of a feed
abbrev pub IsOfFeed : SourceModel → Type 0
IsOfFeed (CutFile path) = ⊥
IsOfFeed (FeedFolder folder horizon) = Unit {0}

-- the input is one of a journey over this timetable
abbrev pub IsInputOf : SourceModel → Input → Type 0
IsInputOf timetable (input.Feed table) = IsOfFeed timetable
IsInputOf timetable input.Cut = IsOfCutFile timetable
IsInputOf timetable input.Delays = Unit {0}
IsInputOf timetable input.Graph = ⊥
IsInputOf timetable input.Proof = ⊥

-- the limit is one of a journey over this timetable
abbrev pub IsLimitOf : SourceModel → LimitKind → Type 0
IsLimitOf timetable (Bytes input) = IsInputOf timetable input
IsLimitOf timetable (Rows table) = IsOfFeed timetable
IsLimitOf timetable CutRows = IsOfCutFile timetable
IsLimitOf timetable Connections = IsOfFeed timetable
IsLimitOf timetable Entries = IsOfFeed timetable

-- it comes before the files of a command and after the words: it is a fault of the timetable, of its delays, of the stops of a
-- journey or of the window; or there was no memory. A fault of a feed, of a cut file or of the delays is about what they contain:
-- that they cannot be read, are too long or have too many rows, and lack of memory, are faults of the run by themselves
abbrev pub IsBeforeSearch : SourceModel → Fault → Type 0
IsBeforeSearch timetable (Words fault) = ⊥
IsBeforeSearch timetable (Feed fault) = IsOfFeed timetable × ((limits : Limits) → feed_as limits fault ≡ Feed fault)
IsBeforeSearch timetable (Cut fault) = IsOfCutFile timetable × (cut_as fault ≡ Cut fault)
IsBeforeSearch timetable (Missing input) = IsInputOf timetable input
IsBeforeSearch timetable (Delays fault) = fault ≢ delay.NoMemory
IsBeforeSearch timetable (UnknownStop which) = Unit {0}
IsBeforeSearch timetable (Limit kind count) = IsLimitOf timetable kind
IsBeforeSearch timetable (Read input) = IsInputOf timetable input
IsBeforeSearch timetable NoSafe = ⊥
IsBeforeSearch timetable (GraphFile fault) = ⊥
IsBeforeSearch timetable (Replay fault) = ⊥
IsBeforeSearch timetable (ProofFile fault) = ⊥
IsBeforeSearch timetable (ProofFails connection) = ⊥
IsBeforeSearch timetable (Unsafe place moment) = ⊥
IsBeforeSearch timetable Write = ⊥
IsBeforeSearch timetable NoMemory = Unit {0}

-- The lines of faults.
use Rattle.std.specs.Prelude.{ℕ, List, ◌++◌, Option, codes, decimal}
use Rattle.csv_rows.specs.{FeedTables.file_name, FaultTexts.{too_many_rows, feed_fault_text}}
use Rattle.command_line.specs.FaultTexts.{words_fault_text}
use Rattle.cut_file.specs.FaultTexts.{cut_fault_text}
use Rattle.delay_table.specs.FaultTexts.{delay_fault_text}
use Rattle.graph_text.specs.FaultTexts.{graph_fault_text}
use Rattle.lower_proof.specs.FaultTexts.{certificate_fault_text}
use Rattle.trip_replay.specs.FaultTexts.{replay_fault_text}
use Rattle.journey_model.specs.declared.faults.{LimitKind.{LimitKind, TheVariants.{Bytes, Rows, CutRows, Connections, Entries}}, Fault.Fault}
use Rattle.journey_model.specs.declared.faults.Fault.TheVariants.{Words, Feed, Cut, Missing, Delays, UnknownStop, Limit, Read, NoSafe, GraphFile, Replay}
use Rattle.journey_model.specs.{declared.faults.Fault.TheVariants.{ProofFile, ProofFails, Unsafe, Write, NoMemory}, Faults.input_name, Sites.NamedParts}
use Rattle.journey_model.specs.Sites.{site_of, site_text_in}
use Rattle.journey_model.specs.declared.faults.Which.TheVariants as which

-- the text of what there is too much of
abbrev pub limit_text : LimitKind → ℕ → List ℕ
limit_text (Bytes input) count = input_name input ++ codes " is too long"
limit_text (Rows table) count = too_many_rows (file_name table) count
limit_text CutRows count = too_many_rows (codes "cut file") count
limit_text Connections count = codes "too many connections: " ++ decimal count
limit_text Entries count = codes "too many entries: " ++ decimal count

-- the text of a fault, but for where in the timetable it is
abbrev pub fault_text : Fault → List ℕ
fault_text (Words fault) = words_fault_text fault
fault_text (Feed fault) = feed_fault_text fault
fault_text (Cut fault) = cut_fault_text fault
fault_text (Missing input) = input_name input ++ codes " is missing"
fault_text (Delays fault) = delay_fault_text fault
fault_text (UnknownStop which.From) = codes "unknown stop of --from"
fault_text (UnknownStop which.To) = codes "unknown stop of --to"
fault_text (Limit kind count) = limit_text kind count
fault_text (Read input) = codes "cannot read " ++ input_name input
fault_text NoSafe = codes "no safe strategy"
fault_text (GraphFile fault) = graph_fault_text fault
fault_text (Replay fault) = replay_fault_text fault
fault_text (ProofFile fault) = certificate_fault_text fault
fault_text (ProofFails connection) = codes "proof fails"
fault_text (Unsafe place moment) = codes "unsafe"
fault_text Write = codes "cannot write"
fault_text NoMemory = codes "out of memory"

-- the line of a fault, by the timetable that is known: what the fault is, and where in the timetable
abbrev pub line_of : Option NamedParts → Fault → List ℕ
line_of known fault = codes "meat: " ++ (fault_text fault ++ (site_text_in known (site_of fault) ++ codes "\n"))

-- its line takes memory
abbrev pub IsFormatted : Fault → Type 0
IsFormatted (Words fault) = Unit {0}
IsFormatted (Feed fault) = Unit {0}
IsFormatted (Cut fault) = Unit {0}
IsFormatted (Missing input) = Unit {0}
IsFormatted (Delays fault) = Unit {0}
IsFormatted (UnknownStop which) = Unit {0}
IsFormatted (Limit kind count) = Unit {0}
IsFormatted (Read input) = ⊥
IsFormatted NoSafe = Unit {0}
IsFormatted (GraphFile fault) = Unit {0}
IsFormatted (Replay fault) = Unit {0}
IsFormatted (ProofFile fault) = Unit {0}
IsFormatted (ProofFails connection) = Unit {0}
IsFormatted (Unsafe place moment) = Unit {0}
IsFormatted Write = ⊥
IsFormatted NoMemory = ⊥

-- The meaning of the files of a made timetable.
use Rattle.std.specs.Prelude.{ℕ, List, ◌∷◌, Option, Some, codes, if◌then◌else◌}
use Rattle.file_ports.specs.{Ports.{FileMap, FilesState}, Steady.{folder_of as others_on, open_of as open_on, remaining_of as remaining_on}}
use Rattle.feed_maker.specs.{StopTimes.{remaining_of as times_remaining, lines_of}, MadeTables.stop_times_text, declared.files.MadeFiles.MadeFiles}

-- the files by their paths
abbrev pub folder_of : MadeFiles → FileMap
folder_of f = (codes "feed/stop_times.txt", stop_times_text (lines_of f.times)) ∷ others_on f.others

-- the path of the open file
abbrev pub open_of : MadeFiles → Option (List ℕ)
open_of f = if f.in_times then Some (codes "feed/stop_times.txt") else open_on f.others

-- what is unread of it
abbrev pub remaining_of : MadeFiles → Option (List ℕ)
remaining_of f = if f.in_times then Some (times_remaining f.times) else remaining_on f.others

-- all of it
abbrev pub state_of : MadeFiles → FilesState
state_of f = record { files = Some (folder_of f); in_hand = open_of f; left = remaining_of f; faults = 0; faults_of = λ _. 0 }

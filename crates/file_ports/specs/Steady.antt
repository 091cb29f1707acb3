-- The meaning of files in memory that never fail.
use Rattle.std.specs.Prelude.{◌≡◌, ℕ, List, map, if◌then◌else◌, Option, Some, option_map, option_and_then, slice_get, drop, bytes_eq, string_bytes}
use Rattle.file_ports.specs.{Ports.{FileMap, FilesState, file_at}, declared.steady.SteadyFiles.SteadyFiles}

-- the files by their paths
abbrev pub folder_of : SteadyFiles → FileMap
folder_of f = map (λ e. (string_bytes e.path, e.value.items)) f.held.items

-- the path of the open file
abbrev pub open_of : SteadyFiles → Option (List ℕ)
open_of f = option_and_then (λ i. option_map (λ e. string_bytes e.path) (slice_get f.held.items i)) f.current

-- what is unread of it
abbrev pub remaining_of : SteadyFiles → Option (List ℕ)
remaining_of f = option_and_then (λ i. option_map (λ e. drop f.offset e.value.items) (slice_get f.held.items i)) f.current

-- all of it
abbrev pub state_of : SteadyFiles → FilesState
state_of f = record { files = Some (folder_of f); in_hand = open_of f; left = remaining_of f; faults = 0; faults_of = λ _. 0 }

-- the most that a read gives
abbrev pub piece_of : SteadyFiles → ℕ
piece_of f = f.piece

-- the files are as they were, but for this path, which has these bytes
abbrev pub PutsFile : FileMap → FileMap → List ℕ → List ℕ → Type 0
PutsFile old new path bytes = (p : List ℕ) → file_at new p ≡ if bytes_eq path p then Some bytes else file_at old p

-- the same files, and the same one open, as far read
pub record SameFiles (old new : SteadyFiles) : Type 0 where
  pub files : folder_of new ≡ folder_of old
  pub current : open_of new ≡ open_of old
  pub remaining : remaining_of new ≡ remaining_of old

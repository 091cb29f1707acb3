-- The meaning of files in memory that fail at chosen calls.
use Rattle.std.specs.Prelude.{◌≡◌, ℕ, List, Bool, ◌||◌, ◌&&◌, Option, Some, bytes_eq, nat_eq}
use Rattle.file_ports.specs.{Ports.{FileMap, FilesState}, Steady.{folder_of as steady_folder, open_of as steady_open, remaining_of as steady_remaining}}
use Rattle.file_ports.specs.Steady.{piece_of as steady_piece, SameFiles as SameSteadily}
use Rattle.memory_ports.specs.{Failing.{faults_in, fails_in}, declared.memory.MemoryFiles.MemoryFiles}

-- the files by their paths
abbrev pub folder_of : MemoryFiles → FileMap
folder_of f = steady_folder f.steady

-- the path of the open file
abbrev pub open_of : MemoryFiles → Option (List ℕ)
open_of f = steady_open f.steady

-- what is unread of it
abbrev pub remaining_of : MemoryFiles → Option (List ℕ)
remaining_of f = steady_remaining f.steady

-- the most that a read gives
abbrev pub piece_of : MemoryFiles → ℕ
piece_of f = steady_piece f.steady

-- how many reads there were since a path was opened
abbrev pub reads_of : MemoryFiles → ℕ
reads_of f = f.reads

-- how often calls on this path have failed
abbrev pub faults_at : MemoryFiles → List ℕ → ℕ
faults_at f path = faults_in f.failing.items path

-- how often calls have failed
abbrev pub total_faults : MemoryFiles → ℕ
total_faults f = f.faults

-- all of their meaning
abbrev pub state_of : MemoryFiles → FilesState
state_of f = record { files = Some (folder_of f); in_hand = open_of f; left = remaining_of f; faults = total_faults f; faults_of = faults_at f }

-- this call on this path fails: call 0 opens it, and call k is the k-th read since then
abbrev pub fails_at : MemoryFiles → List ℕ → ℕ → Bool
fails_at f path call = fails_in f.failing.items path call

-- which calls fail stays the same
abbrev pub FailsAlike : MemoryFiles → MemoryFiles → Type 0
FailsAlike old new = (path : List ℕ) (call : ℕ) → fails_at new path call ≡ fails_at old path call

-- besides the calls that fail, this call on this path does
abbrev pub FailsToo : MemoryFiles → MemoryFiles → List ℕ → ℕ → Type 0
FailsToo old new path call = (p : List ℕ) (k : ℕ) → fails_at new p k ≡ (fails_at old p k || (bytes_eq path p && nat_eq call k))

-- the same files, and the same one open, as far read
pub record SameFiles (old new : MemoryFiles) : Type 0 where
  pub steady : SameSteadily old.steady new.steady
  pub reads : reads_of new ≡ reads_of old

-- the same failures, so far and to come
pub record SameFailing (old new : MemoryFiles) : Type 0 where
  pub fails : FailsAlike old new
  pub counts : (path : List ℕ) → faults_at new path ≡ faults_at old path
  pub total : total_faults new ≡ total_faults old

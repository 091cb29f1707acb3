-- The faults of a run: the number that a process ends with, the file that a fault is of, and why there is no answer.
use Rattle.std.specs.Prelude.{◌≡◌, ◌≢◌, ℕ, ◌+◌, ◌==◌, Bool, false, List, Option, None, Some, IfSome, codes, ◌⊎◌}
use Rattle.csv_rows.specs.FeedTables.{file_name, rank_of}
use Rattle.journey_model.specs.declared.faults.{Input.Input, Fault.{Fault, TheVariants.{Words, Feed, Cut, Missing, Delays, UnknownStop, Limit, Read, NoSafe}}}
use Rattle.journey_model.specs.declared.faults.Fault.TheVariants.{GraphFile, Replay, ProofFile, ProofFails, Unsafe, Write, NoMemory}
use Rattle.journey_model.specs.declared.faults.Input.TheVariants as input

-- where this file is missing
abbrev pub missing_status : Input → ℕ
missing_status (input.Feed table) = 3
missing_status input.Cut = 3
missing_status input.Delays = 4
missing_status input.Graph = 10
missing_status input.Proof = 14

-- 0 where there is no fault
abbrev pub status_of : Option Fault → ℕ
status_of None = 0
status_of (Some NoSafe) = 1
status_of (Some (Words fault)) = 2
status_of (Some (Feed fault)) = 3
status_of (Some (Cut fault)) = 3
status_of (Some (Missing input)) = missing_status input
status_of (Some (Delays fault)) = 4
status_of (Some (UnknownStop which)) = 5
status_of (Some (Limit kind count)) = 6
status_of (Some (Read input)) = 7
status_of (Some Write) = 8
status_of (Some NoMemory) = 9
status_of (Some (GraphFile fault)) = 10
status_of (Some (Replay fault)) = 11
status_of (Some (ProofFails connection)) = 13
status_of (Some (ProofFile fault)) = 14
status_of (Some (Unsafe place moment)) = 15

-- what a line calls a file
abbrev pub input_name : Input → List ℕ
input_name (input.Feed table) = file_name table
input_name input.Cut = codes "cut file"
input_name input.Delays = codes "delay file"
input_name input.Graph = codes "graph file"
input_name input.Proof = codes "proof file"

-- the file that cannot be read, where the fault is of this kind
abbrev pub unread_input : Fault → Option Input
unread_input (Words fault) = None
unread_input (Feed fault) = None
unread_input (Cut fault) = None
unread_input (Missing input) = None
unread_input (Delays fault) = None
unread_input (UnknownStop which) = None
unread_input (Limit kind count) = None
unread_input (Read input) = Some input
unread_input NoSafe = None
unread_input (GraphFile fault) = None
unread_input (Replay fault) = None
unread_input (ProofFile fault) = None
unread_input (ProofFails connection) = None
unread_input (Unsafe place moment) = None
unread_input Write = None
unread_input NoMemory = None

-- a number for each input, no two of them the same
abbrev pub input_number : Input → ℕ
input_number input.Cut = 0
input_number input.Delays = 1
input_number input.Graph = 2
input_number input.Proof = 3
input_number (input.Feed table) = rank_of table + 4

-- whether this file is the one that cannot be read
abbrev pub is_unread_input : Option Input → Input → Bool
is_unread_input None input = false
is_unread_input (Some unread) input = input_number unread == input_number input

-- where the fault is that a file cannot be read, it is this file
abbrev pub MayBeUnread : Input → Fault → Type 0
MayBeUnread input fault = IfSome (unread_input fault) (λ other. other ≡ input)

-- no file failed to be read, and the answer was written
abbrev pub IsUndisturbed : Option Fault → Type 0
IsUndisturbed fault = ((input : Input) → fault ≢ Some (Read input)) × (fault ≢ Some Write)

-- there was no memory, or this is the fault that holds first, where no file but that of the fault is unread
abbrev pub IsFirst : (Option Input → Option Fault) → Fault → Type 0
IsFirst first fault = fault ≢ NoMemory → first (unread_input fault) ≡ Some fault

-- this is why; or there was no memory
abbrev pub OrNoMemory : (Fault → Type 0) → Fault → Type 0
OrNoMemory Fails fault = Fails fault ⊎ (fault ≡ NoMemory)

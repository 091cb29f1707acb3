-- The texts of the faults of a replay.
use Rattle.std.specs.Prelude.{ℕ, List, ◌++◌, codes, decimal}
use Rattle.trip_replay.specs.declared.ReplayFault.{ReplayFault, TheVariants.{NotADelay, TooFew, TooMany, Stuck, NoMemory}}

-- the text of a fault of a replay, but for where in the timetable it is
abbrev pub replay_fault_text : ReplayFault → List ℕ
replay_fault_text (NotADelay number) = codes "late " ++ (decimal number ++ codes " is not a delay")
replay_fault_text (TooFew ridden) = codes "too few delays: " ++ (decimal ridden ++ codes " ridden")
replay_fault_text (TooMany ridden) = codes "too many delays: " ++ (decimal ridden ++ codes " ridden")
replay_fault_text (Stuck place moment) = codes "stuck"
replay_fault_text NoMemory = codes "out of memory"

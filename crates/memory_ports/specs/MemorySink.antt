-- The meaning of a sink in memory.
use Rattle.std.specs.Prelude.{ℕ, List}
use Rattle.memory_ports.specs.declared.memory_sink.MemorySink.{MemorySink}

-- what was written
abbrev pub held_of : MemorySink → List ℕ
held_of s = s.bytes.items

-- the most that a write takes, and the most that all take
abbrev pub piece_of : MemorySink → ℕ
piece_of s = s.piece

abbrev pub room_of : MemorySink → ℕ
room_of s = s.room

-- how many writes there were, and the numbers of those that fail
abbrev pub writes_of : MemorySink → ℕ
writes_of s = s.writes

abbrev pub failing_of : MemorySink → List ℕ
failing_of s = s.failing

abbrev pub total_faults : MemorySink → ℕ
total_faults s = s.faults

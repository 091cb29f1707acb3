-- The bounds of frequencies, as numbers.
use Rattle.std.specs.Prelude.{ℕ}

-- the most seconds from one departure of a trip that repeats to the next
abbrev pub most_headway : ℕ
most_headway = 86400

-- the most rows of a table of frequencies
abbrev pub most_frequencies : ℕ
most_frequencies = 65536

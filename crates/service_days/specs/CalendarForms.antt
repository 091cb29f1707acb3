-- The forms of the fields of the calendars (GTFS Schedule reference).
use Rattle.std.specs.{Prelude.{ℕ, Bool, true, false, List, Option, Some, None, if◌then◌else◌, codes}, Str.bytes_eq}

-- whether a field has the first of two texts, and not the second
abbrev pub choice_in : (first second : List ℕ) → List ℕ → Option Bool
choice_in first second text = if bytes_eq text first then Some true else if bytes_eq text second then Some false else None

-- the flag of a weekday
abbrev pub weekday_flag_in : List ℕ → Option Bool
weekday_flag_in text = choice_in (codes "1") (codes "0") text

-- whether an exception adds its day: 1 adds it and 2 removes it
abbrev pub adds_in : List ℕ → Option Bool
adds_in text = choice_in (codes "1") (codes "2") text

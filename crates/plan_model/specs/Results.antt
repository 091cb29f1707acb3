-- Chains of results: each part is read where those before it have no fault.
use Rattle.std.specs.Prelude.{Option, None, Some, Result, Ok, Err}

-- what comes next, where there is no fault so far
abbrev pub and_then : {A B E : Type 0} → Result A E → (A → Result B E) → Result B E
and_then (Ok a) next = next a
and_then (Err fault) next = Err fault

-- what comes next where this part is there, and else its fault
abbrev pub require : {A B E : Type 0} → Option A → E → (A → Result B E) → Result B E
require None fault next = Err fault
require (Some a) fault next = next a

-- the value, unless there is a fault
abbrev pub unless : {A E : Type 0} → Option E → A → Result A E
unless None a = Ok a
unless (Some fault) a = Err fault

-- the value, or else this one
abbrev pub value_or : {A E : Type 0} → A → Result A E → A
value_or default (Ok a) = a
value_or default (Err fault) = default

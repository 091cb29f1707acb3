-- The timetable of a problem, for the lines of faults.
use Rattle.std.specs.{Prelude.{Option, option_map}, Borrow.Bor}
use Rattle.plan_model.specs.declared.timetable.Timetable.{Timetable}
use Rattle.journey_model.specs.{Sites.NamedParts, declared.problem.Problem.Problem}

-- a timetable, for the lines of faults
abbrev pub named_parts : Timetable → NamedParts
named_parts t = record { network = t.network; names = t.names }

-- that of a problem
abbrev pub parts_of : Problem → NamedParts
parts_of p = named_parts p.timetable

-- that of a timetable, where one is known
abbrev pub known_in : Option (Bor Timetable) → Option NamedParts
known_in known = option_map (λ t. named_parts t.now) known

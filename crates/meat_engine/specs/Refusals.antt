-- Refusals, with the timetables whose names their lines use.
use Rattle.std.specs.Prelude.{◌≢◌, Option, option_map, Result, Ok, Err}
use Rattle.journey_model.specs.{declared.faults.Fault.{Fault, TheVariants.NoMemory}, Sites.{NamedParts, HasSite}, Known.parts_of}
use Rattle.meat_engine.specs.declared.refusal.Refusal.{Refusal}

-- the timetable that is known
abbrev pub known_of : Refusal → Option NamedParts
known_of r = option_map parts_of r.problem

-- a refused answer by its fault
abbrev pub by_fault : {T : Type 0} → Result T Refusal → Result T Fault
by_fault (Ok a) = Ok a
by_fault (Err r) = Err r.fault

-- its line has a text by the timetable that is known, by which the fault has its cause, or there was no memory
pub record IsRefusalBy (cause : Option NamedParts → Fault → Type 0) (r : Refusal) : Type 0 where
  pub has_site : HasSite (known_of r) r.fault
  pub holds : r.fault ≢ NoMemory → cause (known_of r) r.fault

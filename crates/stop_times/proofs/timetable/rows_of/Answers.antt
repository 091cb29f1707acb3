use Rattle.stop_times.proofs.Common.{◌∙◌, sym, ap, length}
use Rattle.stop_times.proofs.timetable.rows_of.Goals as goal

pub invariant_of-named : goal.invariant_of-named
invariant_of-named c = record { placed = c.requires ∙ ap length (sym (c.in_ok-stop_index.ensures ∙ c.texts-2.ensures)) }

pub returns : goal.returns
returns c = rw (← c.texts.ensures, ← c.in_ok-trip_index.ensures, ← c.texts-2.ensures, ← c.in_ok-stop_index.ensures) c.read_timed_rows.ensures

use Rattle.stop_times.proofs.records.Record.field_at.Goals as goal

pub returns-in-Some : goal.returns-in-Some
returns-in-Some c = rw c.in-Some.is c.field.ensures

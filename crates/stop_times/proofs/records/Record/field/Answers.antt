use Rattle.stop_times.proofs.{Common.{slice_index_or, arith}, RecordLemmas.{field-some, field-none}}
use Rattle.stop_times.proofs.records.Record.field.Goals as goal

pub returns-in-Some : goal.returns-in-Some
returns-in-Some c = grind (arith, field-some, slice_index_or)

pub returns-in-None : goal.returns-in-None
returns-in-None c = grind (arith, field-none, slice_index_or)

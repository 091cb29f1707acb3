use Rattle.csv_rows.proofs.NameLemmas.{name_some, name_none}
use Rattle.csv_rows.proofs.names.read_name.Goals as goal

pub returns-in-Ok : goal.returns-in-Ok
returns-in-Ok c = name_some c.args.text.now c.in-Ok.name.now c.if-is_empty.ensures c.in-Ok.ensures.cases.0 c.in-Ok.ensures.cases.1

pub returns-in-Err : goal.returns-in-Err
returns-in-Err c = name_none c.args.text.now c.if-is_empty.ensures c.in-Err.ensures.cases.0

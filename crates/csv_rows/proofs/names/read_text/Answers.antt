use Rattle.csv_rows.proofs.NameLemmas.{text_some, text_none}
use Rattle.csv_rows.proofs.names.read_text.Goals as goal

pub returns-in-Ok : goal.returns-in-Ok
returns-in-Ok c = text_some c.args.text.now c.in-Ok.text.now c.in-Ok.ensures.cases.0 c.in-Ok.ensures.cases.1

pub returns-in-Err : goal.returns-in-Err
returns-in-Err c = text_none c.args.text.now c.in-Err.ensures.cases.0

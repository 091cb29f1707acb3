use Rattle.text_index.proofs.Numbers.{number_is, no_number}
use Rattle.text_index.proofs.names.number_of.Goals as goal

pub returns-in-Ok-clause-number : goal.returns-in-Ok-clause-number
returns-in-Ok-clause-number c = number_is c.number.result c.args.texts.now c.args.name.now c.in-Ok.text.now
    c.in-Ok.ensures.cases.0 c.in-Ok.ensures.cases.1 c.number.ensures.found c.number.ensures.none c.len-count.ensures.names.distinct

pub returns-in-Err-clause-number : goal.returns-in-Err-clause-number
returns-in-Err-clause-number c = no_number c.args.name.now c.args.texts.now c.in-Err.ensures.cases.0

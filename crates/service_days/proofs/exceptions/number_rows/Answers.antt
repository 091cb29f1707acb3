use Rattle.service_days.proofs.Common.{◌-◌, All, sym, subst, ◌∙◌, IsTrimmed, arith}
use Rattle.service_days.proofs.exceptions.number_rows.Goals as goal

pub read_rows-requires-clause-few : goal.read_rows-requires-clause-few
read_rows-requires-clause-few c = grind arith

pub read_rows-requires-clause-trimmed : goal.read_rows-requires-clause-trimmed
read_rows-requires-clause-trimmed c = subst (All IsTrimmed) (sym (c.in_ok-services.ensures ∙ c.texts.ensures)) c.len-count.ensures.names.trimmed

pub of-ids-requires : goal.of-ids-requires
of-ids-requires c = subst (All IsTrimmed) (sym c.in_ok-list.ensures) c.in_ok-exceptions.ensures.trimmed

pub returns-clause-numbered : goal.returns-clause-numbered
returns-clause-numbered c = grind arith

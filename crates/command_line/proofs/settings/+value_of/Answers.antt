use Rattle.command_line.proofs.{Common.{sym, arith}, Pairs.{IsPair, value_of-short, value_of-found, value_of-other}}
use Rattle.command_line.proofs.settings.+value_of.Goals as goal

pub returns-in_default : goal.returns-in_default
returns-in_default t c = sym (value_of-short c.args.settings.now c.args.option c.in_default.len_below)

pub returns-then-eq : goal.returns-then-eq
returns-then-eq t c =
    let pair : IsPair _ _ _ _ = record { two = c.in-len2-up.len_at_least; name_is = c.name-item.is; value_is = c.value-item.is; word_is = c.as_str.ensures.value } in
    value_of-found _ _ _ _ pair c.args.option c.name.result.now c.as_str-then-eq.result.now c.name.ensures c.if-eq.ensures c.as_str-then-eq.ensures.value

pub returns : goal.returns
returns t c = grind (arith, value_of-other)

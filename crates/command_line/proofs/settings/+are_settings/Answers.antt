use Rattle.command_line.proofs.{Common.{ℕ, List, sym, ◌∙◌, Bor, arith}, Pairs.{IsPair, are_settings-short, are_settings-unknown, are_settings-known}}
use Rattle.command_line.proofs.settings.+are_settings.Goals as goal

pub returns-in_default : goal.returns-in_default
returns-in_default t c = are_settings-short c.args.settings.now c.is_empty.result c.in_default.len_below c.is_empty.ensures

pub returns-in-None : goal.returns-in-None
returns-in-None t c = grind (arith, are_settings-unknown)

pub returns-then-is_none : goal.returns-then-is_none
returns-then-is_none t c =
    let pair : IsPair _ _ _ _ = record { two = c.in-len2-up.len_at_least; name_is = c.name-item.is; value_is = c._value-item.is; word_is = c.as_str.ensures.value } in
    let all = are_settings-known _ _ _ _ pair (λ (value : Bor (List ℕ)). value.now) c.value_of.result c.in-Some.option (sym c.option_named.ensures ∙ c.in-Some.is) c.value_of.ensures in
    grind arith

pub returns-else-is_none : goal.returns-else-is_none
returns-else-is_none t c =
    let pair : IsPair _ _ _ _ = record { two = c.in-len2-up.len_at_least; name_is = c.name-item.is; value_is = c._value-item.is; word_is = c.as_str.ensures.value } in
    let all = are_settings-known _ _ _ _ pair (λ (value : Bor (List ℕ)). value.now) c.value_of.result c.in-Some.option (sym c.option_named.ensures ∙ c.in-Some.is) c.value_of.ensures in
    grind arith

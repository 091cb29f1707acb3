use Rattle.clock_text.proofs.{Common.{arith, ◌≡◌, ◌∙◌, pos, ◌+ℤ◌, FitsSigned, w32, w64, to_z-of_z, signed_arith, epoch_day}, DateFacts.{epoch_day_zero, day_size}}
use Rattle.std.proofs.lemmas.Result.{IfOk-at_ok}
use Rattle.jiff.proofs.SpanFacts.{date_add-days, can_add-days}
use Rattle.clock_text.proofs.dates.date_from.Goals as goal

pub days-requires : goal.days-requires
days-requires c = grind (arith, w32, w64, signed_arith, day_size)

pub unwrap-requires : goal.unwrap-requires
unwrap-requires c = grind (arith, w32, w64, signed_arith, epoch_day_zero, can_add-days)

pub returns : goal.returns
returns c =
    let d : c.from.result ≡ c.args.day = c.from.ensures ∙ to_z-of_z w32 c.args.day c.ranges.day in
    let day64 : FitsSigned w64 c.from.result = omega (arith, signed_arith, d) in
    let only = rw (to_z-of_z w64 c.from.result day64, d) at c.days.ensures in
    let first : epoch_day c.date.result ≡ pos 0 = epoch_day_zero c.date.result c.date.ensures.0 c.date.ensures.1 c.date.ensures.2 in
    let sum : epoch_day c.date.result +ℤ c.args.day ≡ c.args.day = omega (arith, signed_arith, first) in
    IfOk-at_ok _ c.unwrap.ensures c.checked_add.ensures.value ∙ date_add-days c.date.result c.args.day c.days.result only ∙ sum

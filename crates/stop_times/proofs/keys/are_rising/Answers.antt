use Rattle.stop_times.proofs.{Common.{◌≡◌, ◌-◌, ◌∙◌, arith, refl, subst, get_or_default, TimedRow, no_row, row_at, IsRowBefore}, RisingRows.rising-next}
use Rattle.stop_times.proofs.keys.are_rising.Goals as goal

pub loop-i-preserved : goal.loop-i-preserved
loop-i-preserved c =
    let rows = c.args.rows.now in
    let i = c.loop-i.i in
    let before : c.index-rows-i.result ≡ row_at rows (i - 1) =
    c.index-rows-i.is ∙ get_or_default rows (i - 1) c.index-rows-i.result no_row (omega arith) in
    let here : c.index-rows-i-in-loop-i.result ≡ row_at rows i =
    c.index-rows-i-in-loop-i.is ∙ get_or_default rows i c.index-rows-i-in-loop-i.result no_row (omega arith) in
    let pair : IsRowBefore (row_at rows (i - 1)) c.index-rows-i-in-loop-i.result =
    subst (λ (a : TimedRow). IsRowBefore a c.index-rows-i-in-loop-i.result) before (c.if-not-is_before.ensures refl) in
    rising-next rows i c.loop-i.invariant (subst (λ (b : TimedRow). IsRowBefore (row_at rows (i - 1)) b) here pair)

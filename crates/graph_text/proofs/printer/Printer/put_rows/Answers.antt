use Rattle.graph_text.proofs.Common.{◌∙◌, refl, moment_text, leg_row, rows_text, text_more}
use Rattle.graph_text.proofs.printer.Printer.put_rows.Goals as goal

pub write_moment-by-requires : goal.write_moment-by-requires
write_moment-by-requires c = (c.requires c.loop-row.row-index _ c.loop-row-test.true).by

pub put_leg-requires : goal.put_leg-requires
put_leg-requires c = (c.requires c.loop-row.row-index _ c.loop-row-test.true).is_leg

pub loop-row-preserved : goal.loop-row-preserved
loop-row-preserved c =
    let own = c.args.self.now in
    let by = c.as_slice.ensures ∙ c.write_moment-by.ensures.text in
    text_more (rows_text own.network.now own.names.now own.version c.args.kind.now)
    (λ row. leg_row own.network.now own.names.now own.version c.args.kind.now (moment_text row.by.0) row.leg)
    (λ x xs. refl) c.args.rows.now c.loop-row.row-index
    _ _ c.in_ok-text.text.items c.loop-row.text.items _ c.loop-row-test.true refl
    (rw by at c.in_ok-text.ensures) c.loop-row.invariant

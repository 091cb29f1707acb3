use Rattle.graph_text.proofs.Common.{◌∙◌, ◌++◌, ap, refl, length, codes, decimal, List, ℕ, leg_row, rows_text, ride_text, rides_text, append_assoc, text_more}
use Rattle.graph_text.proofs.printer.RidePrinter.put_rides.Goals as goal

pub loop-ride-preserved : goal.loop-ride-preserved
loop-ride-preserved c =
    let own = c.args.self.now.printer in
    let r = c.ride-item.result in
    let second = c.as_bytes-number.ensures.value ∙ c.format.ensures.text ∙ ap decimal c.len.ensures in
    let rows = rows_text own.network.now own.names.now own.version (codes "next") r.after in
    let both = rw c.as_slice.ensures at c.in_ok-text-2.ensures ∙ ap (λ (list : List ℕ). list ++ rows) (rw second at c.in_ok-text.ensures)
    ∙ append_assoc c.loop-ride.text.items (leg_row own.network.now own.names.now own.version (codes "ride") (decimal (length r.after)) r.leg) rows in
    text_more (rides_text own.network.now own.names.now own.version) (ride_text own.network.now own.names.now own.version) (λ x xs. refl) c.as_slice-rides.result.now
    c.loop-ride.ride-index _ _ c.in_ok-text-2.text.items c.loop-ride.text.items _ c.loop-ride-test.true c.ride-item.is both c.loop-ride.invariant

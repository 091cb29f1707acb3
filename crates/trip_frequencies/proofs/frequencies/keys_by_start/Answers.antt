use Rattle.trip_frequencies.proofs.Common.{◌≡◌, ℕ, true, length, refl, subst, arith, AreKeys, key_of, sorted_are, keys-none, keys-taken, trip_of_row, start_of_row}
use Rattle.trip_frequencies.proofs.frequencies.keys_by_start.Goals as goal

pub loop-i-init : goal.loop-i-init
loop-i-init c = grind (arith, keys-none)

pub loop-i-preserved : goal.loop-i-preserved
unfolding key_of
loop-i-preserved c =
    let rows = c.args.rows.now in
    keys-taken (λ i. true) (trip_of_row rows) (start_of_row rows) c.loop-i.i c.loop-i.keys.items c.push.new.self.items _ c.loop-i.invariant refl c.in_ok-push.ensures.items refl

pub returns : goal.returns
returns c =
    let rows = c.args.rows.now in
    let P : ℕ → Type 0 = λ m. AreKeys (λ i. true) (trip_of_row rows) (start_of_row rows) m c.loop-i.keys.items in
    let end : c.loop-i.i ≡ length rows = omega arith in
    sorted_are (λ i. true) (trip_of_row rows) (start_of_row rows) (length rows) c.loop-i.keys.items c.in_order.result.items (subst P end c.loop-i.invariant)
    c.in_order.ensures.same c.in_order.ensures.rising

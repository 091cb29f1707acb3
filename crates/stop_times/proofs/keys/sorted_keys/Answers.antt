use Rattle.stop_times.proofs.Common.{◌≡◌, false, ap, ap₂, refl, arith, subst, ℕ, List, [], ◌∷◌, ◌++◌, length, ◌+◌, ◌<◌, ◌∙◌, length_push, get_or_default, Key, AreKeys, key_of, sorted_are}
use Rattle.stop_times.proofs.{Common.{keys-none, keys-taken, TimedRow, trip_of, sequence_of, no_row, is_taken}, RisingRows.keys_rise}
use Rattle.std.proofs.lemmas.List.Sorted.{length_permutation, IsPermutation-refl}
use Rattle.stop_times.proofs.keys.sorted_keys.Goals as goal

pushed : (xs ys : List Key) (x : Key) → ys ≡ xs ++ x ∷ [] → length ys ≡ length xs + 1
pushed xs ys x e = ap length e ∙ length_push xs x

pub loop-i-init : goal.loop-i-init
loop-i-init c = grind (arith, keys-none)

pub loop-i-preserved : goal.loop-i-preserved
unfolding key_of
loop-i-preserved c =
    let rows = c.args.rows.now in
    let i = c.loop-i.i in
    let old = c.loop-i.keys.items in
    let new = c.push.new.self.items in
    let inside : i < length rows = omega arith in
    let trip : c.trip.result ≡ trip_of rows i =
    c.trip.ensures ∙ ap (λ (r : TimedRow). r.trip) (c.index-rows-i.is ∙ get_or_default rows i c.index-rows-i.result no_row inside) in
    let sequence : c.sequence.result ≡ sequence_of rows i =
    c.sequence.ensures ∙ ap (λ (r : TimedRow). r.sequence) (c.index-rows-i-in-loop-i.is ∙ get_or_default rows i c.index-rows-i-in-loop-i.result no_row inside) in
    let size = pushed old new _ c.in_ok-push.ensures.items in (
      keys-taken (is_taken false rows) (trip_of rows) (sequence_of rows) i old new _ c.loop-i.invariant.0 refl c.in_ok-push.ensures.items
          (ap₂ (λ (group order : ℕ). record { group = group; order = order; row = i }) trip sequence),
      omega (arith, size, c.loop-i.invariant.1),
    )

pub returns-clause-few : goal.returns-clause-few
returns-clause-few c = omega (arith, length_permutation c.loop-i.keys.items c.in_order.result.items c.in_order.ensures.same, c.loop-i.invariant.1)

pub returns-clause-keys : goal.returns-clause-keys
returns-clause-keys c =
    let rows = c.args.rows.now in
    let test = is_taken false rows in
    let P : ℕ → Type 0 = λ m. AreKeys test (trip_of rows) (sequence_of rows) m c.loop-i.keys.items in
    let end : c.loop-i.i ≡ length rows = omega arith in
    sorted_are test (trip_of rows) (sequence_of rows) (length rows) c.loop-i.keys.items c.in_order.result.items (subst P end c.loop-i.invariant.0) c.in_order.ensures.same c.in_order.ensures.rising

pub returns-then-rise-clause-keys : goal.returns-then-rise-clause-keys
returns-then-rise-clause-keys c =
    let rows = c.args.rows.now in
    let test = is_taken false rows in
    let keys = c.loop-i.keys.items in
    let P : ℕ → Type 0 = λ m. AreKeys test (trip_of rows) (sequence_of rows) m keys in
    let end : c.loop-i.i ≡ length rows = omega arith in
    let own = subst P end c.loop-i.invariant.0 in
    sorted_are test (trip_of rows) (sequence_of rows) (length rows) keys keys own (IsPermutation-refl keys) (keys_rise rows keys (c.requires.rise c.if-rise.true) own)

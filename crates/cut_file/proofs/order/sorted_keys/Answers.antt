use Rattle.cut_file.proofs.Common.{◌≡◌, ℕ, length, true, subst, refl, arith, AreKeys, key_of, sorted_are, keys-none, keys-taken, run_of, step_of}
use Rattle.std.proofs.lemmas.{Grind.common_steps, List.Sorted.length_permutation}
use Rattle.cut_file.proofs.order.sorted_keys.Goals as goal

pub loop-i-init : goal.loop-i-init
loop-i-init c = grind (arith, common_steps, keys-none)

pub loop-i-preserved : goal.loop-i-preserved
unfolding key_of
loop-i-preserved c = record {
  size = grind (arith, common_steps);
  keys = keys-taken (λ i. true) (run_of c.args.rows.now) (step_of c.args.rows.now) c.loop-i.i c.loop-i.keys.items c.push.new.self.items _ c.loop-i.invariant.keys refl c.in_ok-push.ensures.items refl;
}

pub returns-clause-size : goal.returns-clause-size
returns-clause-size c = omega (arith, length_permutation c.loop-i.keys.items c.in_order.result.items c.in_order.ensures.same, c.loop-i.invariant.size)

pub returns-clause-sorted : goal.returns-clause-sorted
returns-clause-sorted c =
    let rows = c.args.rows.now in
    let P : ℕ → Type 0 = λ m. AreKeys (λ i. true) (run_of rows) (step_of rows) m c.loop-i.keys.items in
    let end : c.loop-i.i ≡ length rows = omega arith in
    sorted_are (λ i. true) (run_of rows) (step_of rows) (length rows) c.loop-i.keys.items c.in_order.result.items
    (subst P end c.loop-i.invariant.keys) c.in_order.ensures.same c.in_order.ensures.rising

use Rattle.csv_rows.proofs.{Common.{ℕ, true, ap, sym, ◌∙◌, arith, option_map, twin_at}, SoonestLemmas.{soonest-next, soonest-first}, KeyLemmas.twin_is}
use Rattle.csv_rows.proofs.keys.first_repeat.Goals as goal

pub loop-k-preserved : goal.loop-k-preserved
loop-k-preserved c = λ group order count s.
    let k = c.loop-k.k in
    soonest-next (twin_at group order) count c.args.keys.now k c.loop-k.first c.sooner-first.result c.repeated.result (s.inside k (omega arith))
    (twin_is group order count c.args.keys.now s k (omega arith) c.before_at.result c.before_at.ensures ∙ sym c.repeated.ensures) c.sooner-first.ensures (c.loop-k.invariant group order count s)

pub returns-in-None : goal.returns-in-None
returns-in-None c = λ group order count s.
    soonest-first (twin_at group order) count c.args.keys.now (λ i. true) group order s (λ i never. absurd (cc)) c.loop-k.k (omega arith) c.loop-k.first (c.loop-k.invariant group order count s)
    ∙ ap (option_map (λ (x : ℕ × ℕ). x.1)) c.in-None.is

pub returns-in-Some : goal.returns-in-Some
returns-in-Some c = λ group order count s.
    soonest-first (twin_at group order) count c.args.keys.now (λ i. true) group order s (λ i never. absurd (cc)) c.loop-k.k (omega arith) c.loop-k.first (c.loop-k.invariant group order count s)
    ∙ ap (option_map (λ (x : ℕ × ℕ). x.1)) c.in-Some.is

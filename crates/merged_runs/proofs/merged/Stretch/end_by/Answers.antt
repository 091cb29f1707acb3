use Rattle.merged_runs.proofs.{Common.{◌+◌, ◌-◌, ◌/◌, arith, ap, Connection}, SkipLemmas.IsParted-up}
use Rattle.merged_runs.proofs.merged.Stretch.end_by.Goals as goal

pub loop-low-preserved-then-dep-last : goal.loop-low-preserved-then-dep-last
loop-low-preserved-then-dep-last c =
    let s = c.args.self.now in
    IsParted-up s.network.now c.args.last.0 s.from c.loop-low.low c.loop-low.high s.to c.loop-low.invariant s.rising
    (c.loop-low.low + (c.loop-low.high - c.loop-low.low) / 2) (omega arith) (omega (arith, c.loop-low-test.true))
    (omega (arith, ap (λ (x : Connection). x.dep.0) c.get-in-loop-low.ensures.connection, c.if-dep-last.true))

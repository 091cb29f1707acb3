use Rattle.connections.proofs.Common.{◌≡◌, ◌-◌, ◌^◌, min, if◌then◌else◌, kept_at, sum_below, holds, departs, each_of}
use Rattle.connections.proofs.counts.sum_steps.Given as goal

abbrev pub invariant-loop-k : goal.invariant-loop-k
invariant-loop-k l =
    l.sum ≡ min (sum_below (λ k. if holds l.window (departs l.rows l.origin k) then each_of l.changes l.counted (kept_at l.rows k).place else 0) l.k)
    (2 ^ 64 - 1)

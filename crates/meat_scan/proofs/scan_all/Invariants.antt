use Rattle.meat_scan.proofs.{Common.{◌≡◌, ℕ, length, IsValid, capacity_at, HasRoom}, States.ScanState}
use Rattle.meat_scan.proofs.scan_all.Given as goal

abbrev pub invariant-loop-id : goal.invariant-loop-id
invariant-loop-id g l =
    let score = g.V.Score in
    record {
      valid : IsValid l.network;
      fits : g.B.BackwardOrder.fits l.order l.network;
      room : HasRoom l.network (g.B.BackwardOrder.rest l.order l.network) l.profiles.items l.exits;
      state : ScanState score.scoring l.network l.query
          (g.B.BackwardOrder.rest l.fn.order l.network) (g.B.BackwardOrder.rest l.order l.network) l.profiles.items l.exits l.start;
      same_capacity : (place : ℕ) → capacity_at l.profiles.items place ≡ capacity_at l.initial.profiles.items place;
      same_runs : length l.exits ≡ length l.initial.exits;
    }

abbrev pub decreases-loop-id : goal.decreases-loop-id
decreases-loop-id g l = length (g.B.BackwardOrder.rest l.order l.network)

use Rattle.connections.proofs.{Common.{ℕ, ◌<◌, ◌+◌, arith, sym, subst, cases_lt, Run, run_at, IsSmallRepeat, IsRunName, List, common_steps}, NameLemmas.{run_new, run_pushes}}
use Rattle.connections.proofs.names.names_of.Goals as goal

-- the runs below a number and the next one
below_next : (rs : List Run) (r : ℕ) → ((k : ℕ) → k < r → IsSmallRepeat (run_at rs k).repeat) → IsSmallRepeat (run_at rs r).repeat
    → (k : ℕ) → k < r + 1 → IsSmallRepeat (run_at rs k).repeat
below_next rs r before here k h = grind (arith, cases_lt)

pub push_run-requires-clause-absent : goal.push_run-requires-clause-absent
push_run-requires-clause-absent c =
    let runs = c.args.runs.now in let trips = runs.trips.now in let f = trips.feed.now in let rs = runs.list.now in let r = c.loop-r.r in
    run_new f rs r c.loop-r.names.runs c.as_str.result.now trips.trip_ids runs.apart (below_next rs r c.loop-r.invariant.2 c.in_ok-name.ensures.small)
    (omega arith) c.loop-r.invariant.0 (subst (IsRunName f (run_at rs r)) (sym c.as_str.ensures.value) c.in_ok-name.ensures.name)

pub loop-r-preserved : goal.loop-r-preserved
loop-r-preserved c = grind (arith, common_steps, run_pushes, below_next)

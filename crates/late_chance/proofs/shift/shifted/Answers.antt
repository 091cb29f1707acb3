use Rattle.late_chance.proofs.{Common.{◌≡◌, ◌-◌, arith, IsView, SECONDS_PER_WEEK}, SeenFrom.{valid, view}}
use Rattle.std.proofs.lemmas.Result.{IfOk-weaker}
use Rattle.late_chance.proofs.shift.shifted.Goals as goal

pub try_clone_with-requires : goal.try_clone_with-requires
try_clone_with-requires c =
    rw (c.in_ok-connections.ensures.seen, c.saturating_sub-shift.ensures) (valid (c.args.promise.0 - SECONDS_PER_WEEK) c.args.start.0 c.args.network.now c.seen_connections.ensures.valid)

pub returns-clause-view : goal.returns-clause-view
returns-clause-view c =
    let shift = c.args.promise.0 - SECONDS_PER_WEEK in
    IfOk-weaker c.try_clone_with.result (λ copy. copy ≡ record c.args.network.now { connections = c.in_ok-connections.connections })
    (λ seen. IsView seen c.args.network.now shift c.args.start.0)
    (λ seen reported. rw (reported, c.in_ok-connections.ensures.seen, c.saturating_sub-shift.ensures) (view shift c.args.start.0 c.args.network.now (omega arith))) c.try_clone_with.ensures

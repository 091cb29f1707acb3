use Rattle.trip_replay.proofs.Common.{◌≡◌, ℕ, suc, ◌-◌, Option, arith, ap, refl, ◌==◌, if◌then◌else◌, Leg, NetworkModel, Done, end_of, by_place, ride_or_stuck, unfold_after, pick_at, fit_rises}
use Rattle.trip_replay.proofs.Walks.{next_leg}
use Rattle.plan_model.specs.declared.model.Connection.{Connection}
use Rattle.trip_replay.proofs.position_after.Goals as goal

pub pick_rising-requires : goal.pick_rising-requires
pick_rising-requires c = fit_rises c.args.network.now c.args.query.now c.args.graph.now c.requires.fit

pub returns-clause-next : goal.returns-clause-next
returns-clause-next c =
    next_leg c.args.network.now c.args.graph.now.tables c.requires.fit.tables c.get.result.to.0 c.args.arrival.0 c.args.remaining c.pick_rising.result
    c.pick_rising.ensures (omega (arith, c.if-remaining-eq0.false))

-- with one more ride to come
one_more : (n : NetworkModel) (target : ℕ) (choice : Leg → ℕ → Option Leg) (fewer remaining : ℕ) (leg : Leg) (arrival : ℕ) → remaining ≡ suc fewer
    → (if end_of n leg == target then Done arrival else ride_or_stuck n (unfold_after n target choice fewer) (choice leg arrival) (end_of n leg) arrival)
    ≡ unfold_after n target choice remaining leg arrival
one_more n target choice fewer remaining leg arrival is = rw is refl

pub returns-clause-tree : goal.returns-clause-tree
returns-clause-tree c =
    let n = c.args.network.now in
    let choice = by_place n (pick_at c.args.graph.now.tables) in
    let to = ap (λ (k : Connection). k.to.0) c.get.ensures.connection in
    rw (c.pick_rising.ensures, to) (one_more n c.args.query.now.target.0 choice (c.args.remaining - 1) c.args.remaining c.args.leg c.args.arrival.0 (omega (arith, c.if-remaining-eq0.false)))

use Rattle.plan_graph.proofs.{Common.{◌<◌, recursion_from_All, count, Leg, All-from_contains}, Walks.walked}
use Rattle.std.proofs.lemmas.Result.{IfOk-weaker}
use Rattle.plan_graph.proofs.chosen_rides.walk.Goals as goal

pub rides_of-requires : goal.rides_of-requires
rides_of-requires g c =
    let inside = λ (leg : Leg). leg.exit.0 < count c.args.network.now in
    recursion_from_All inside c.in_ok-seen.seen.keys (All-from_contains inside c.in_ok-seen.seen.keys (λ leg has. (c.in_ok-seen.ensures.placed leg has).is_leg.exit))

pub returns-clause-walked : goal.returns-clause-walked
returns-clause-walked g c =
    IfOk-weaker c.rides_of.result _ _
    (λ rides are. rw are (walked c.args.network.now c.count-count.ensures.valid c.args.query.now _ c.args.start c.in_ok-seen.seen.keys c.in_ok-seen.ensures)) c.rides_of.ensures

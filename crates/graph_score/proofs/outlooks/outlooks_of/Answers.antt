use Rattle.std.proofs.lemmas.Grind.{common_steps}
use Rattle.graph_score.proofs.{Common.arith, GraphLegs.exits_there, Looks.{are_ready, reported_first, reported_there, reported_next, reported_last}}
use Rattle.graph_score.proofs.outlooks.outlooks_of.Goals as goal

pub exits_of-requires : goal.exits_of-requires
exits_of-requires c = exits_there c.args.network.now c.args.query.now c.args.rising.now.legs.now c.requires.fit

pub loop-exit-init : goal.loop-exit-init
loop-exit-init c = grind (arith, common_steps, are_ready, reported_first)

pub index_mut-requires : goal.index_mut-requires
index_mut-requires c =
    let rising = c.args.rising.now in
    let ready = are_ready rising.legs.now rising.all_legs c.count.ensures.valid c.requires.fit c.in_ok-exits.ensures in
    let reported = rw c.in-Some.ensures.items at c.loop-exit.invariant in
    omega (arith, c.loop-exit.outlooks.ok.0, reported.as_many, reported_there ready _ _ reported)

pub loop-exit-preserved : goal.loop-exit-preserved
loop-exit-preserved c =
    let rising = c.args.rising.now in
    let ready = are_ready rising.legs.now rising.all_legs c.count.ensures.valid c.requires.fit c.in_ok-exits.ensures in
    let reported = rw c.in-Some.ensures.items at c.loop-exit.invariant in
    rw (c.outlook_of-outlook.ensures, c.deref.ensures.value) (reported_next ready _ _ reported)

pub returns : goal.returns
returns c =
    let rising = c.args.rising.now in
    let ready = are_ready rising.legs.now rising.all_legs c.count.ensures.valid c.requires.fit c.in_ok-exits.ensures in
    reported_last ready (search (arith, c.in_default.ensures)) c.loop-exit.invariant

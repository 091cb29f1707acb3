use Rattle.plan_graph.proofs.{Common.{◌≡◌, arith, inr, [], ◌∷◌, Some, unfolding_of}, Reaching.{begin, start_placed, all_seen, popped, popped_there, visited}}
use Rattle.plan_graph.proofs.chosen_rides.reach.Goals as goal

pub loop-init : goal.loop-init
loop-init g c =
    let choice = g.C.LegChoice.chosen c.args.choice.now c.args.network.now in
    let whole = unfolding_of c.args.network.now c.args.query.now choice (Some c.args.start) in
    let safe = c.requires.safe in
    let empty : c.new-todo.result.items ≡ [] = c.new-todo.ensures.items in
    let pushed : c.push.new.self.items ≡ c.args.start ∷ [] = grind arith in
    let none : c.new-seen.result.keys ≡ [] = c.new-seen.ensures.empty in
    let at = begin c.args.network.now c.args.query.now.target.0 (Some safe.0) choice whole c.args.start (start_placed c.args.network.now c.args.query.now choice c.args.start c.requires.differ safe) in
    record {
      deadline = Some safe.0;
      reaching = rw (pushed, none) at;
      ordered = c.new-seen.ensures.ordered;
    }

pub returns-in-None : goal.returns-in-None
returns-in-None g c =
    let choice = g.C.LegChoice.chosen c.args.choice.now c.args.network.now in
    let whole = unfolding_of c.args.network.now c.args.query.now choice (Some c.args.start) in
    let full = c.loop.todo.ok.0 in
    let inv = c.loop.invariant in
    let seen = all_seen c.args.network.now c.args.query.now.target.0 inv.deadline choice whole c.args.start c.loop.todo.items c.loop.seen.keys (omega (arith, full, c.in-None.ensures.cases.0)) in
    record {
      deadline = inv.deadline;
      start_there = seen c.args.start inv.reaching.start_known;
      placed = λ leg has. inv.reaching.placed leg (inr has);
      closed = λ leg has row there. seen row.leg (inv.reaching.closed leg has row there);
      ordered = inv.ordered;
    }

pub visit-requires : goal.visit-requires
visit-requires g c =
    popped_there _ _ _ _ _ _ c.pop.new.self.items c.loop.seen.keys c.in-Some.leg
    (popped _ _ _ _ _ _ c.loop.todo.items c.pop.new.self.items c.loop.seen.keys c.in-Some.leg c.loop.invariant.reaching c.in-Some.ensures.items)

pub loop-preserved : goal.loop-preserved
loop-preserved g c =
    let choice = g.C.LegChoice.chosen c.args.choice.now c.args.network.now in
    let whole = unfolding_of c.args.network.now c.args.query.now choice (Some c.args.start) in
    let inv = c.loop.invariant in
    let at = popped c.args.network.now c.args.query.now.target.0 inv.deadline choice whole c.args.start c.loop.todo.items c.pop.new.self.items
    c.loop.seen.keys c.in-Some.leg inv.reaching c.in-Some.ensures.items in
    let after = visited c.args.network.now c.args.query.now.target.0 inv.deadline choice whole c.args.start c.pop.new.self.items c.visit.new.todo.items
    c.loop.seen.keys c.in-Some.leg at c.in_ok-visit-in-Some.ensures.todo in
    record {
      deadline = inv.deadline;
      reaching = grind arith;
      ordered = c.in_ok-visit-in-Some.ensures.ordered;
    }

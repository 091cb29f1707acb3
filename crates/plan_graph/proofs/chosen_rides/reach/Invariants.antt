use Rattle.plan_graph.proofs.{Common.{ℕ, Option, Some, IsStrictlySortedBy, unfolding_of, leg_cmp}, Reaching.IsReaching}
use Rattle.plan_graph.proofs.chosen_rides.reach.Given as goal

abbrev pub invariant-loop : goal.invariant-loop
invariant-loop g l =
    let choice = g.C.LegChoice.chosen l.choice l.network in
    record {
      deadline : Option ℕ;
      reaching : IsReaching l.network l.query.target.0 deadline choice (unfolding_of l.network l.query choice (Some l.fn.start)) l.fn.start l.todo.items l.seen.keys;
      ordered : IsStrictlySortedBy leg_cmp l.seen.keys;
    }

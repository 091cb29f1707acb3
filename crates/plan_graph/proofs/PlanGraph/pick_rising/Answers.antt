use Rattle.plan_graph.proofs.{Common.{◌<◌, List, AllPairs, arith, GraphRow}, Picked.rows_of_place-by}
use Rattle.plan_graph.proofs.PlanGraph.pick_rising.Goals as goal

pub leg_by-requires : goal.leg_by-requires
leg_by-requires c =
    let rises = rows_of_place-by (λ place (rows : List GraphRow). AllPairs
    (λ (a b : GraphRow). a.by.0 < b.by.0) rows) c.args.self.now.tables c.args.place.0
    (λ i j d less within. absurd (omega (arith, less, within))) c.requires.rows in
    grind arith

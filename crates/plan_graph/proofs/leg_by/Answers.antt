use Rattle.plan_graph.proofs.{Common.{arith, rules, sym, GraphRow}, RisingTables.{parted_at, pick_row-at, pick_row-none}}
use Rattle.plan_graph.proofs.leg_by.Goals as goal

pub returns-then-at-rows : goal.returns-then-at-rows
returns-then-at-rows c =
    let rows = c.args.rows.now in
    let x = c.args.arrival.0 in
    let point = parted_at (λ (r : GraphRow). r.by.0) rows x _ c.partition_point-at.ensures.partitioned c.requires (λ a r q k. search rules) in
    sym (pick_row-none rows x (λ k d low below. point.0 k d low (omega (arith, below, c.if-at-rows.true))))

pub returns : goal.returns
returns c =
    let rows = c.args.rows.now in
    let x = c.args.arrival.0 in
    let point = parted_at (λ (r : GraphRow). r.by.0) rows x _ c.partition_point-at.ensures.partitioned c.requires (λ a r q k. search rules) in
    grind (arith, pick_row-at)

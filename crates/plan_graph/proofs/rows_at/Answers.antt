use Rattle.plan_graph.proofs.{Common.{arith, rules, sym, ap, ◌∙◌, get_or_default, PlaceTable}, RisingTables.{parted_at, rows_of_place-at, rows_of_place-none}}
use Rattle.plan_graph.proofs.rows_at.Goals as goal

pub returns-then-at-tables : goal.returns-then-at-tables
returns-then-at-tables c =
    let tables = c.args.tables.now in
    let p = c.args.place.0 in
    let point = parted_at (λ (t : PlaceTable). t.place.0) tables p _ c.partition_point-at.ensures.partitioned c.requires (λ a r q k. search rules) in
    sym (rows_of_place-none tables p c.partition_point-at.result c.requires point (λ d within is. omega (arith, within, c.if-at-tables.true)))

pub returns-then-table-place : goal.returns-then-table-place
returns-then-table-place c =
    let tables = c.args.tables.now in
    let p = c.args.place.0 in
    let point = parted_at (λ (t : PlaceTable). t.place.0) tables p _ c.partition_point-at.ensures.partitioned c.requires (λ a r q k. search rules) in
    let own = c.index-tables-at.result in
    sym (rows_of_place-none tables p c.partition_point-at.result c.requires point (λ d within is.
    let here = ap (λ (t : PlaceTable). t.place.0) (c.index-tables-at.is ∙ get_or_default tables c.partition_point-at.result own d within) ∙ is in c.if-table-place.true here))

pub returns : goal.returns
returns c =
    let tables = c.args.tables.now in
    let p = c.args.place.0 in
    let point = parted_at (λ (t : PlaceTable). t.place.0) tables p _ c.partition_point-at.ensures.partitioned c.requires (λ a r q k. search rules) in
    grind (arith, rows_of_place-at)

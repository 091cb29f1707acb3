use Rattle.graph_compact.proofs.{Common.{◌∙◌, length-map, lists_of, arith, common_steps}, Trees.{unfolds, tidy}}
use Rattle.graph_compact.proofs.compact.Goals as goal

pub returns-in_ok-tables-in-Some-clause-unfolds : goal.returns-in_ok-tables-in-Some-clause-unfolds
returns-in_ok-tables-in-Some-clause-unfolds c = grind (arith, common_steps, unfolds)

pub returns-in_ok-tables-in-Some-clause-tidy : goal.returns-in_ok-tables-in-Some-clause-tidy
returns-in_ok-tables-in-Some-clause-tidy c =
    let tables = c.in_ok-rows-in-Some.rows.items in
    rw (c.in_ok-tables-in-Some.ensures, c.deref.ensures.value)
    (tidy c.args.network.now c.in_ok-rows-in-Some.ensures.valid c.args.query.now c.args.graph.now c.requires.pruned c.requires.coherent c.in-Some.start
    c.in-Some.is (lists_of tables) (length-map tables (λ table. table.keys) ∙ c.in_ok-rows-in-Some.ensures.len) c.in_ok-rows-in-Some.ensures.rows)

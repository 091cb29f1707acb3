use Rattle.tests_scores.proofs.tables.tables_serve_many_scans.Goals as goal

pub start_value-tables-requires-clause-tables_fit : goal.start_value-tables-requires-clause-tables_fit
start_value-tables-requires-clause-tables_fit g c = c.in_ok-tables.ensures.by _

-- the tables that come back fit the network as those that were given did
pub start_value-tables-requires-2-clause-tables_fit : goal.start_value-tables-requires-2-clause-tables_fit
start_value-tables-requires-2-clause-tables_fit g c = c.start_value-tables.ensures.by c.in_ok-tables.ensures.whole _

pub start_value-tables-requires-3-clause-tables_fit : goal.start_value-tables-requires-3-clause-tables_fit
start_value-tables-requires-3-clause-tables_fit g c =
    c.start_value-tables-2.ensures.by (c.start_value-tables.ensures.tables_fit c.in_ok-tables.ensures.whole) _

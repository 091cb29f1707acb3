use Rattle.graph_text.proofs.{Common.{◌≡◌, ◌+◌, arith}, Tables.{read_raised, tables_after, tables_fail}}
use Rattle.graph_text.proofs.reader.Reader.read_tables.Goals as goal

pub returns-in_err-reading : goal.returns-in_err-reading
returns-in_err-reading c = grind (arith, read_raised, tables_fail)

pub loop-row-preserved : goal.loop-row-preserved
loop-row-preserved c =
    let line : c.loop-row.row + 2 + 1 ≡ c.loop-row.row + 1 + 2 = omega arith in
    grind (arith, tables_after)

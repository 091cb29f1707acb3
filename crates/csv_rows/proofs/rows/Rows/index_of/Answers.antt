use Rattle.csv_rows.proofs.{Common.{◌∙◌, ap, number_in, header}, HeaderLemmas.index_is}
use Rattle.csv_rows.proofs.rows.Rows.index_of.Goals as goal

pub returns : goal.returns
returns c =
    index_is c.column.result c.name.result.now (header c.args.self.now) c.column.ensures.found c.column.ensures.first c.column.ensures.none
    ∙ ap (λ name. number_in name (header c.args.self.now)) c.name.ensures

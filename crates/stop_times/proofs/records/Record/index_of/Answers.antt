use Rattle.stop_times.proofs.Common.{◌∙◌, ap, number_in}
use Rattle.csv_rows.proofs.HeaderLemmas.{index_is}
use Rattle.stop_times.proofs.records.Record.index_of.Goals as goal

pub returns : goal.returns
returns c =
    index_is c.index_named.result c.name.result.now c.args.self.now c.index_named.ensures.found c.index_named.ensures.first c.index_named.ensures.none
    ∙ ap (λ name. number_in name c.args.self.now) c.name.ensures

use Rattle.csv_rows.proofs.{Common.{ap, ◌∙◌, number_in}, IdLemmas.number_is}
use Rattle.csv_rows.proofs.ids.Ids.number.Goals as goal

pub returns-clause-number : goal.returns-clause-number
returns-clause-number c =
    number_is c.number.result c.args.id.now c.self.inside.ids c.self.invariant.names.distinct c.number.ensures.found c.number.ensures.none
    ∙ ap (number_in c.args.id.now) c.self.view_is

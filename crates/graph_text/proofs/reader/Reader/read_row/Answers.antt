use Rattle.graph_text.proofs.{Common.{subst, Result, Reading, TextFault, IsUnlessNoMemory}, Tables.table_step}
use Rattle.graph_text.proofs.reader.Reader.read_row.Goals as goal

pub returns-clause-reported : goal.returns-clause-reported
returns-clause-reported c =
    subst (λ (reported : Result Reading TextFault). IsUnlessNoMemory c.read_leg.result reported)
    (table_step c.args.self.now.network.now c.args.self.now.names c.args.self.now.version c.args.printed.now.line
    c.args.printed.now.fields c.args.reading c.in-Some.place c.if-reading-eq0.false c.in-Some.is) c.read_leg.ensures.reported

use Rattle.printed_rows.proofs.Found.{connection_number}
use Rattle.printed_rows.proofs.connection_of.Goals as goal

pub returns-clause-number : goal.returns-clause-number
returns-clause-number c = connection_number c.args.network.now c.find.ensures.valid c.args.run.0 c.args.step c.find.result c.find.ensures.found c.find.ensures.none

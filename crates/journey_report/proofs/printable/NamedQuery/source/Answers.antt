use Rattle.journey_report.proofs.Common.{name_is}
use Rattle.journey_report.proofs.printable.NamedQuery.source.Goals as goal

pub returns : goal.returns
returns c = name_is c.args.self.now.timetable.now.names.places c.args.self.now.query.source.0 c.place_name.result.now c.place_name.ensures.name

use Rattle.std.proofs.Common.{◌∙◌, ap, sym}
use Rattle.journey_model.specs.{declared.faults.Fault.Fault, FaultLines.line_of}
use Rattle.journey_model.proofs.lines.known_line.Goals as goal

pub returns-in-Read-clause-line : goal.returns-in-Read-clause-line
returns-in-Read-clause-line c = λ known. c.unread_line.ensures known ∙ ap (λ (fault : Fault). line_of known fault) (sym c.in-Read.is)

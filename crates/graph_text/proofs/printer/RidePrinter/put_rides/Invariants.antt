use Rattle.graph_text.proofs.Common.{◌≡◌, ◌++◌, drop, rides_text}
use Rattle.graph_text.proofs.printer.RidePrinter.put_rides.Given as goal

-- the text so far, and that of the rides that remain
abbrev pub invariant-loop-ride : goal.invariant-loop-ride
invariant-loop-ride l =
    l.text.items ++ rides_text l.self.printer.network.now l.self.printer.names.now l.self.printer.version
    (drop l.ride-index l.rides) ≡ l.initial.text.items ++ rides_text l.self.printer.network.now l.self.printer.names.now l.self.printer.version l.rides

use Rattle.tests_scans.proofs.names_and_orders.given.Given as goal

abbrev pub invariant-loop : goal.invariant-loop
invariant-loop g l = g.O.BackwardOrder.fits l.order l.network

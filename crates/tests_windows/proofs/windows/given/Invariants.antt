use Rattle.tests_windows.proofs.windows.given.Given as goal

abbrev pub invariant-loop : goal.invariant-loop
invariant-loop g l = g.O.BackwardOrder.fits l.order l.network

use Rattle.delay_table.proofs.{Common.{class_for, arith}, RouteFacts.unnumbered-class}
use Rattle.delay_table.proofs.table.DelayTable.class_at.Goals as goal

pub returns-clause-class : goal.returns-clause-class
unfolding class_for
returns-clause-class c = grind arith

pub returns-clause-not_named : goal.returns-clause-not_named
returns-clause-not_named c = grind (arith, unnumbered-class, returns-clause-class)

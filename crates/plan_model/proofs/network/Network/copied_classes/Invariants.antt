use Rattle.plan_model.proofs.Common.{◌≡◌, take}
use Rattle.plan_model.proofs.network.Network.copied_classes.Given as goal

abbrev pub invariant-loop-row : goal.invariant-loop-row
invariant-loop-row l = l.classes ≡ take l.row-index l.rows

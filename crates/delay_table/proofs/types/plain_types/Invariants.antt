use Rattle.delay_table.proofs.Common.{◌≡◌, plain_types}
use Rattle.delay_table.proofs.types.plain_types.Given as goal

abbrev pub invariant-loop-index : goal.invariant-loop-index
invariant-loop-index l = l.types.items ≡ plain_types l.groups l.index

use Rattle.delay_table.proofs.Common.{others, IsNumbering}
use Rattle.delay_table.proofs.other_groups.numbering_of.Given as goal

abbrev pub invariant-loop-index : goal.invariant-loop-index
invariant-loop-index l = IsNumbering l.numbering.routes l.numbering.groups (others l.read.groups l.index)

use Rattle.text_index.proofs.Common.{◌≡◌, take}
use Rattle.text_index.proofs.index.TextIndex.list.Given as goal

abbrev pub invariant-loop-i : goal.invariant-loop-i
invariant-loop-i l = l.list ≡ take l.i l.self

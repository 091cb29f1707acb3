use Rattle.text_index.proofs.Common.{◌≡◌, take, key_texts}
use Rattle.text_index.proofs.index.TextIndex.of.Given as goal

abbrev pub invariant-loop-i : goal.invariant-loop-i
invariant-loop-i l = key_texts l.numbers.keys ≡ take l.i l.texts

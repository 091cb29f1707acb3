use Rattle.lower_proof.proofs.{Common.{arith, IsPermutation-trans, length_permutation}, Entries.falls_reversed}
use Rattle.lower_proof.proofs.board.Board.sort.Goals as goal

pub returns-clause-permutation : goal.returns-clause-permutation
returns-clause-permutation c = grind (arith, IsPermutation-trans)

pub returns-clause-falls : goal.returns-clause-falls
returns-clause-falls c = grind (arith, falls_reversed, length_permutation)

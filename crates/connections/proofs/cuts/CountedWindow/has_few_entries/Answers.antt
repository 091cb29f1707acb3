use Rattle.connections.proofs.{Common.{arith, nat_tests}, SumLemmas.entries-most}
use Rattle.connections.proofs.cuts.CountedWindow.has_few_entries.Goals as goal

pub returns : goal.returns
returns c = λ is. grind (arith, nat_tests, entries-most)

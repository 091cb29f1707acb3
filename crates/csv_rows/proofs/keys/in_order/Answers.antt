use Rattle.csv_rows.proofs.SortLemmas.{rising}
use Rattle.csv_rows.proofs.keys.in_order.Goals as goal

pub returns-clause-rising : goal.returns-clause-rising
returns-clause-rising c = rising c.sort_unstable.new.self.items c.sort_unstable.ensures.sorted

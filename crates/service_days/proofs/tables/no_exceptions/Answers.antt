use Rattle.service_days.proofs.{Common.[], NumberLemmas.numbered_none}
use Rattle.service_days.proofs.tables.no_exceptions.Goals as goal

pub returns : goal.returns
returns c = numbered_none [] c.args.ids c.with_hasher.result.keys c.with_hasher.ensures.empty

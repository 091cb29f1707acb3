use Rattle.service_laws.proofs.Compose.{embeds_twice, no_later_twice, alike_twice}
use Rattle.service_laws.proofs.embeds.embeds_one_after_another.Goals as goal

pub returns-clause-at_worst : goal.returns-clause-at_worst
returns-clause-at_worst c = embeds_twice

pub returns-clause-no_later : goal.returns-clause-no_later
returns-clause-no_later c = no_later_twice

pub returns-clause-alike : goal.returns-clause-alike
returns-clause-alike c = alike_twice

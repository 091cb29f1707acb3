use Rattle.service_laws.proofs.Changes.{no_later_embeds, alike_no_later}
use Rattle.service_laws.proofs.embeds.by_weight_embeds.Goals as goal

pub returns-clause-no_later : goal.returns-clause-no_later
returns-clause-no_later c = no_later_embeds

pub returns-clause-alike : goal.returns-clause-alike
returns-clause-alike c = alike_no_later

use Rattle.service_laws.proofs.Found.{safe_no_worse}
use Rattle.service_laws.proofs.embeds.more_service_is_no_worse.Goals as goal

pub returns : goal.returns
returns c = safe_no_worse

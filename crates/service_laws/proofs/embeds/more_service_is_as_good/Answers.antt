use Rattle.service_laws.proofs.Found.{safe_as_good}
use Rattle.service_laws.proofs.embeds.more_service_is_as_good.Goals as goal

pub returns : goal.returns
returns c = safe_as_good

use Rattle.service_laws.proofs.Found.{safe_too, least_no_later}
use Rattle.service_laws.proofs.embeds.more_service_is_no_later.Goals as goal

pub returns-clause-safe : goal.returns-clause-safe
returns-clause-safe c = safe_too

pub returns-clause-least : goal.returns-clause-least
returns-clause-least c = least_no_later

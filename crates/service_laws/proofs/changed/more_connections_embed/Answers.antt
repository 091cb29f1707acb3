use Rattle.service_laws.proofs.Changes.{connections_alike}
use Rattle.service_laws.proofs.changed.more_connections_embed.Goals as goal

pub returns : goal.returns
returns c = connections_alike

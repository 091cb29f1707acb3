use Rattle.service_laws.proofs.Changes.{links_alike}
use Rattle.service_laws.proofs.changed.more_links_embed.Goals as goal

pub returns : goal.returns
returns c = λ n links valid. links_alike n valid links

use Rattle.service_laws.proofs.Changes.{classes_embed}
use Rattle.service_laws.proofs.changed.fewer_delays_embed.Goals as goal

pub returns : goal.returns
returns c = classes_embed

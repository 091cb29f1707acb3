use Rattle.service_laws.proofs.Changes.{changes_alike}
use Rattle.service_laws.proofs.changed.shorter_changes_embed.Goals as goal

pub returns : goal.returns
returns c = λ n change valid. changes_alike n valid change

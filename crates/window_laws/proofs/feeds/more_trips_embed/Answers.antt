use Rattle.window_laws.proofs.Networks.{more_alike}
use Rattle.window_laws.proofs.feeds.more_trips_embed.Goals as goal

pub returns : goal.returns
returns c = λ less more d small large part. more_alike less more part d small large

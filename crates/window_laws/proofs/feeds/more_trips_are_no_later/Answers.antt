use Rattle.window_laws.proofs.Networks.{no_later}
use Rattle.window_laws.proofs.feeds.more_trips_are_no_later.Goals as goal

pub returns : goal.returns
returns c = λ less more d small large part. no_later less more part d small large

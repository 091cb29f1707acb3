use Rattle.window_laws.proofs.Networks.{as_good, no_worse}
use Rattle.window_laws.proofs.feeds.more_trips_are_as_good.Goals as goal

pub returns-clause-as_good : goal.returns-clause-as_good
returns-clause-as_good c = λ less more d small large part. as_good less more part d small large

pub returns-clause-no_worse : goal.returns-clause-no_worse
returns-clause-no_worse c = λ less more d small large part. no_worse less more part d small large

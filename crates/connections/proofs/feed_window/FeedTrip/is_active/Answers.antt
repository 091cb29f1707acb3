use Rattle.connections.proofs.Common.{arith}
use Rattle.connections.proofs.feed_window.FeedTrip.is_active.Goals as goal

pub returns : goal.returns
returns c = grind arith

use Rattle.feed_lists.proofs.Common.{arith}
use Rattle.plan_model.proofs.Texts.{texts-push}
use Rattle.feed_lists.proofs.trips.add_trip.Goals as goal

pub returns-clause-services : goal.returns-clause-services
returns-clause-services c = grind (arith, texts-push)

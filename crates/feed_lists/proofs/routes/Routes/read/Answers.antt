use Rattle.feed_lists.proofs.RouteLemmas.{routes_named}
use Rattle.feed_lists.proofs.routes.Routes.read.Goals as goal

pub read_ids-requires-clause-named : goal.read_ids-requires-clause-named
read_ids-requires-clause-named c = routes_named c.args.rows.now c.in_ok-types.ensures.reports

use Rattle.gtfs_tables.proofs.{Common.{◌<◌, length, ap, arith, FeedParts, feed_parts_of}, FeedFacts.place_below}
use Rattle.std.proofs.lemmas.Grind.{get_or_default_zero}
use Rattle.gtfs_tables.proofs.feed.Feed.place.Goals as goal

pub returns-clause-in_range : goal.returns-clause-in_range
returns-clause-in_range c =
    let same = ap (λ (f : FeedParts). length f.stop_ids) c.self.view_is in
    let inside : c.args.stop < length (feed_parts_of c.self.inside).stop_ids = omega (arith, c.requires, same) in
    let below = place_below (feed_parts_of c.self.inside) c.self.invariant.sound c.args.stop inside in
    grind (arith, get_or_default_zero)

use Rattle.gtfs_tables.proofs.{Common.{reads-raised, reads-value, reads-fault, reads-both, reads-after, arith}, FeedLemmas.{feed_of_tables, sound_feed}}
use Rattle.gtfs_tables.proofs.feed.Feed.read.Goals as goal

pub invariant_of-result : goal.invariant_of-result
invariant_of-result g c = grind (arith, sound_feed)

pub returns-in_err-lists : goal.returns-in_err-lists
returns-in_err-lists g c = reads-raised c.from_residual.result c.from_residual.ensures (reads-fault (λ own. own) (λ m own first. first) c.in_err-lists.ensures.reads)

pub returns-in_err-times : goal.returns-in_err-times
returns-in_err-times g c = reads-raised c.from_residual-in_err-times.result c.from_residual-in_err-times.ensures
    (reads-fault (λ own. own) (λ m own p. p.1 p.0) (reads-after c.in_ok-lists.ensures.reads c.in_err-times.ensures.reads))

pub returns : goal.returns
returns g c = grind (arith, reads-value, feed_of_tables, reads-both)

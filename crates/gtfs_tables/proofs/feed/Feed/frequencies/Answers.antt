use Rattle.gtfs_tables.proofs.Common.{slice_index_or, arith, get-list_below}
use Rattle.gtfs_tables.proofs.feed.Feed.frequencies.Goals as goal

pub returns : goal.returns
returns c = grind (arith, get-list_below, slice_index_or)

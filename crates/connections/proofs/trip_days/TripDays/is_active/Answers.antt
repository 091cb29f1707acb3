use Rattle.connections.proofs.Common.{◌<◌, length, slice_index_or, w32, SFits, rules, ap, arith, to_z-of_z, length-list_below, get-list_below}
use Rattle.connections.specs.TripDays.{FeedDays}
use Rattle.connections.proofs.trip_days.TripDays.is_active.Goals as goal

pub index-requires : goal.index-requires
index-requires c = grind (arith, length-list_below, slice_index_or)

pub returns : goal.returns
returns c =
    let f = c.self.inside.feed.now in let s = c.self.inside.services.now in
    let trip = c.args.trip in
    let number = c.index.result.now in
    let same = ap (λ (x : FeedDays). length x.feed.trip_ids) c.self.view_is in
    let inside : trip < length f.trip_ids = omega (arith, c.requires, same) in
    let fits : SFits w32 c.args.day.number = search rules in
    let back = to_z-of_z w32 c.args.day.number fits in
    grind (arith, slice_index_or, get-list_below)

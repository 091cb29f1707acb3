use Rattle.meat_scan.proofs.{Common.{◌∙◌, ◌<◌, ◌≤◌, ◌≡◌, cond, length, arith, sym, ap, subst, from_of, ways_into, ways_into-distinct, has_way, spare_at}, WaySteps.{from_in, room_remains}}
use Rattle.meat_scan.proofs.WaySteps.{rows_next, spare_next}
use Rattle.meat_scan.proofs.board.Goals as goal

pub put_leg-requires : goal.put_leg-requires
put_leg-requires g c =
    let network = c.args.site.now.network.now in
    let r = c.get-connection.result.from.0 in
    let way = c.way_at-way.result in
    let there : r < length network.change = rw c.get-connection.ensures.connection (c.get-connection.ensures.valid.connections c.args.site.now.id.0 c.args.site.now.there).from_in in
    let inside = from_in network c.get-connection.ensures.valid r c.loop-k.k way there c.way_at-way.ensures in
    let from : from_of network c.args.site.now.id.0 ≡ r = ap (λ connection. connection.from.0) (sym c.get-connection.ensures.connection) in
    let room = subst (λ to. cond (has_way network way.from.0 to) 1 0 ≤ spare_at c.args.profiles.now way.from.0) from (c.requires way.from.0 inside) in
    room_remains network c.get-connection.ensures.valid r c.loop-k.k there (omega arith) way c.way_at-way.ensures _ _ room (c.loop-k.invariant.spare way.from.0)

pub loop-k-preserved : goal.loop-k-preserved
loop-k-preserved g c =
    let score = g.V.Score in
    let network = c.args.site.now.network.now in
    let r = c.get-connection.result.from.0 in
    let way = c.way_at-way.result in
    let loop = c.loop-k in
    let put = c.put_leg.ensures in
    let there : r < length network.change = rw c.get-connection.ensures.connection (c.get-connection.ensures.valid.connections c.args.site.now.id.0 c.args.site.now.there).from_in in
    let distinct = ways_into-distinct network c.get-connection.ensures.valid r there in
    record {
      len = put.len ∙ loop.invariant.len;
      rows = λ place. rows_next (ways_into network r) distinct loop.k
          (omega arith) way c.way_at-way.ensures score.scoring c.args.site.now.query.now.target.0 c.get-connection.result.dep.0 _ _ place _ _ _
          (loop.invariant.rows place) (put.rows place);
      spare = λ place. spare_next (ways_into network r) distinct loop.k (omega arith) way c.way_at-way.ensures place _ _ _ (loop.invariant.spare place) (put.spare place);
      capacity = λ place. put.capacity place ∙ loop.invariant.capacity place;
    }

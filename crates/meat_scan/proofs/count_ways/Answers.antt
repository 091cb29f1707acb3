use Rattle.meat_scan.proofs.{Common.{◌∙◌, arith, length-set, ways_into, ways_into-distinct}, WaySteps.{from_in, count_next}}
use Rattle.meat_scan.proofs.count_ways.Goals as goal

pub bounds-room-way : goal.bounds-room-way
bounds-room-way c = grind (arith, from_in)

pub bounds-room-way-in-loop-k : goal.bounds-room-way-in-loop-k
bounds-room-way-in-loop-k c = grind (arith, from_in)

pub loop-k-preserved : goal.loop-k-preserved
loop-k-preserved c =
    let network = c.args.network.now in
    let way = c.way_at-way.result in
    let loop = c.loop-k in
    let inside = from_in network c.requires.valid c.args.place.0 loop.k way c.requires.place c.way_at-way.ensures in
    record {
      len = length-set loop.room way.from.0 _ ∙ loop.invariant.len;
      counts = λ from there. count_next (ways_into network c.args.place.0)
          (ways_into-distinct network c.requires.valid c.args.place.0 c.requires.place) loop.k (omega arith) way c.way_at-way.ensures loop.room from _
          (omega (arith, inside, loop.invariant.len, c.requires.len)) (loop.invariant.counts from there);
    }

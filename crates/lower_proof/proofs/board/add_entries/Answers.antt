use Rattle.lower_proof.proofs.Common.{◌≡◌, ◌+◌, ◌-◌, ◌<◌, ◌∙◌, length, slice_get, Some, arith, rules, both_ways, subst, ap, length-set, get_or_default, Connection, from_of, dep_of, ways_into}
use Rattle.lower_proof.proofs.{Common.{way_takes, way_of-listed}, Entries.{no_board, no_ways, all_ways, entries_skipped, way_passed, way_added}}
use Rattle.lower_proof.proofs.board.add_entries.Goals.{then-seconds-connection+in_ok-add, else-seconds-connection}
use Rattle.lower_proof.proofs.board.add_entries.Goals as goal

pub loop-k-init : goal.loop-k-init
loop-k-init c = record { len = c.requires.len; ways = λ have. no_ways c.args.network.now c.args.last.0 c.args.id.0 c.args.boards.now have }

pub bounds-boards-way : goal.bounds-boards-way
bounds-boards-way c =
    let n = c.args.network.now in
    let id = c.args.id.0 in
    let way = c.way_at-way.result in
    let departs_in = (c.get-connection.ensures.valid.connections id c.requires.there).from_in in
    let listed = subst (λ (e : Connection). slice_get (ways_into n e.from.0) c.loop-k.k ≡ Some way) c.get-connection.ensures.connection c.way_at-way.ensures in
    let takes = way_takes n c.get-connection.ensures.valid way.from.0 (from_of n id) way.seconds departs_in (way_of-listed n c.get-connection.ensures.valid (from_of n id) departs_in c.loop-k.k way listed) in
    omega (arith, takes.0, c.loop-k.invariant.len)

pub loop-k-preserved : goal.loop-k-preserved
loop-k-preserved c =
    let n = c.args.network.now in
    let id = c.args.id.0 in
    let loop = c.loop-k in
    let boards = loop.boards in
    let way = c.way_at-way.result in
    let departs_in = (c.get-connection.ensures.valid.connections id c.requires.there).from_in in
    let listed = subst (λ (e : Connection). slice_get (ways_into n e.from.0) loop.k ≡ Some way) c.get-connection.ensures.connection c.way_at-way.ensures in
    let dep_is = ap (λ (e : Connection). e.dep.0) c.get-connection.ensures.connection in
    let can = rw c.get-connection.ensures.connection at (c.boards_by.ensures.0 (search rules)).0 in
    elim c.if-seconds-connection.branch [
      | then-seconds-connection+in_ok-add w ↦
          let by = c.get-connection.result.dep.0 - c.from-seconds.result in
          let early = w.if-seconds-connection.true in
          let sum : by + way.seconds ≡ dep_of n id = omega (arith, c.from-seconds.ensures, dep_is) in
          let takes = way_takes n c.get-connection.ensures.valid way.from.0 (from_of n id) way.seconds departs_in
          (way_of-listed n c.get-connection.ensures.valid (from_of n id) departs_in loop.k way listed) in
          let inside : way.from.0 < length boards = omega (arith, takes.0, loop.invariant.len) in
          let is = rw (get_or_default boards way.from.0 w.index-boards-way.result no_board inside) at w.in_ok-add.ensures.added in
          rw w.boards-is (record {
            len = length-set boards way.from.0 w.add.new.self ∙ loop.invariant.len;
            ways = λ have. way_added n c.args.last.0 id c.get-connection.ensures.valid departs_in loop.k way listed by c.requires.there can sum boards w.add.new.self
                inside is w.in_ok-add.ensures.least (loop.invariant.ways have);
          })
      | else-seconds-connection w ↦
          let late = w.if-seconds-connection.false in
          rw w.boards-is (record {
            len = loop.invariant.len;
            ways = λ have. way_passed n c.args.last.0 id c.get-connection.ensures.valid departs_in loop.k way listed (omega (arith, c.from-seconds.ensures, dep_is)) boards (loop.invariant.ways have);
          })
    ]

pub returns-clause-entries : goal.returns-clause-entries
returns-clause-entries c have =
    let ways_are = rw c.get-connection.ensures.connection at c.way_count-k-end.ensures in
    all_ways c.args.network.now c.args.last.0 c.args.id.0 c.loop-k.boards c.loop-k.k (omega (arith, ways_are)) (c.loop-k.invariant.ways have)

pub returns-then-not-boards_by-clause-entries : goal.returns-then-not-boards_by-clause-entries
returns-then-not-boards_by-clause-entries c have =
    let never = rw c.get-connection.ensures.connection at c.boards_by.ensures.1 in
    entries_skipped c.args.network.now c.args.last.0 c.args.id.0 c.args.boards.now (λ board soon. both_ways c.boards_by.result (search rules) (never (board, soon))) have

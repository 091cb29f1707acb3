use Rattle.lower_proof.proofs.{Common.{◌≤◌, arith, rules, IsTrue, take_all}, Vias.{weighed_next, room_next, never_via, via_weighed}}
use Rattle.lower_proof.proofs.via.Goals as goal

pub returns-in-None-clause-via : goal.returns-in-None-clause-via
returns-in-None-clause-via c =
    let none = rw (c.from.ensures, c.row-outcome-items.ensures.outcomes, c.get-connection.ensures.connection) at
    (c.in-None.ensures.least c.args.site.now.network.now c.args.site.now.scope.now.last.0 c.loop-outcome.invariant.boards) in
    let within = rw (c.row-outcome-items.ensures.outcomes, c.get-connection.ensures.connection) at c.loop-outcome-test.true in
    never_via c.args.site.now.network.now c.args.site.now.scope.now.query c.args.values.now c.args.site.now.id.0 c.loop-outcome.outcome-index within none

pub loop-outcome-preserved : goal.loop-outcome-preserved
loop-outcome-preserved c =
    let n = c.args.site.now.network.now in
    let k = c.loop-outcome.outcome-index in
    let items = c.row-outcome-items.result.now in
    let own = rw c.from.ensures at (c.in-Some.ensures.least n c.args.site.now.scope.now.last.0 c.loop-outcome.invariant.boards) in
    let small : c.in-Some.value ≤ 18446744073709551615 = omega arith in
    rw (c.from-in-Some.ensures, c.from-in-Some-2.ensures) (record {
      weighed = weighed_next n c.args.site.now.scope.now.query c.args.values.now c.get-connection.result.to.0 c.get-connection.result.arr.0
          items k c.loop-outcome.sum c.in-Some.value c.loop-outcome-test.true own c.loop-outcome.invariant.weighed;
      room = room_next items k c.loop-outcome.sum c.in-Some.value c.loop-outcome-test.true small c.loop-outcome.invariant.room;
      boards = c.in-Some.ensures.boards n c.args.site.now.scope.now.last.0 c.loop-outcome.invariant.boards;
      late = λ m soon before. c.in-Some.ensures.late m (omega (arith, soon)) (c.loop-outcome.invariant.late m soon before);
    })

pub returns-clause-via : goal.returns-clause-via
returns-clause-via c =
    let all = take_all c.loop-outcome.outcome-index c.row-outcome-items.result.now (omega arith) in
    let weighed = rw (all, c.row-outcome-items.ensures.outcomes, c.get-connection.ensures.connection) at c.loop-outcome.invariant.weighed in
    let leave : IsTrue c.get-connection.result.can_exit = search rules in
    via_weighed c.args.site.now.network.now c.args.site.now.scope.now.query c.args.values.now c.args.site.now.id.0 c.loop-outcome.sum
    (rw c.get-connection.ensures.connection at leave) weighed

pub returns-in-None-clause-boards : goal.returns-in-None-clause-boards
returns-in-None-clause-boards c = c.in-None.ensures.boards c.args.site.now.network.now c.args.site.now.scope.now.last.0 c.loop-outcome.invariant.boards

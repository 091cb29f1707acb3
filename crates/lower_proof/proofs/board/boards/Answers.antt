use Rattle.lower_proof.proofs.Common.{◌≡◌, arith, take_at, count, HaveEntries}
use Rattle.lower_proof.proofs.board.boards.Goals as goal

pub loop-i-preserved : goal.loop-i-preserved
loop-i-preserved c =
    let n = c.args.network.now in
    let loop = c.loop-i in
    let added = c.in_ok-add_entries.ensures in
    let given : HaveEntries n c.args.last.0 loop.i c.deref_mut.result.now = rw c.deref_mut.ensures.value loop.invariant.entries in
    grind (arith, take_at)

pub returns-clause-fresh : goal.returns-clause-fresh
returns-clause-fresh c =
    let n = c.args.network.now in
    let whole : c.loop-i.i ≡ count n = omega (arith, c.count-i-end.ensures.count) in
    let given : HaveEntries n c.args.last.0 (count n) c.deref_mut-2.result.now = rw c.deref_mut-2.ensures.value (rw whole at c.loop-i.invariant.entries) in
    grind (arith, take_at)

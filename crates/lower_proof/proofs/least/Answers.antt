use Rattle.lower_proof.proofs.{Common.{◌≡◌, sym, ap, arith, Connection, count, IsBoardableAtStart}, Leasts.{with_offer, below_same, all_offers}}
use Rattle.lower_proof.proofs.least.Goals.{then-connection+then-starts, else-connection, else-connection-via-then-connection+else-starts, else-connection-via-else-connection}
use Rattle.lower_proof.proofs.least.Goals as goal

pub loop-i-preserved : goal.loop-i-preserved
loop-i-preserved c =
    let n = c.args.network.now in
    let values = c.as_slice-values.result.now in
    let Boards = IsBoardableAtStart n c.args.query.now.source.0 c.args.query.now.start.0 in
    let i = c.loop-i.i in
    let board_is = ap (λ (k : Connection). k.can_board) (sym c.get-connection.ensures.connection) in
    elim c.if-connection.branch [
      | then-connection+then-starts w ↦ grind (arith, with_offer)
      | else-connection w ↦ grind (arith, else-connection-via-then-connection+else-starts, below_same, else-connection-via-else-connection)
    ]

pub returns : goal.returns
returns c =
    let n = c.args.network.now in
    let q = c.args.query.now in
    let Boards = IsBoardableAtStart n q.source.0 q.start.0 in
    let values = c.as_slice-values.result.now in
    let whole : c.loop-i.i ≡ count n = omega arith in
    grind (arith, all_offers)

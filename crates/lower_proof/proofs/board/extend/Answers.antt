use Rattle.lower_proof.proofs.{Common.{◌<◌, length, arith, length-set, IsLeastOf, FrontValue}, Leasts.none_below, Minima.{before_is, minima_more}, board.extend.Goals.{then-k-eq0, else-k-eq0}}
use Rattle.lower_proof.proofs.board.extend.Goals as goal

pub loop-k-preserved : goal.loop-k-preserved
loop-k-preserved c =
    let values = c.args.values.now in
    let entries = c.args.entries.now in
    let loop = c.loop-k in
    let within : loop.k < length loop.least = omega arith in
    let before : IsLeastOf (FrontValue values entries loop.k) c.if-k-eq0.before = elim c.if-k-eq0.branch [
      | then-k-eq0 w ↦ grind (arith, none_below)
      | else-k-eq0 w ↦ rw w.before-is (before_is values entries loop.least loop.k loop.k (omega arith) (omega arith) loop.invariant.minima)
    ] in
    grind (arith, length-set, minima_more)

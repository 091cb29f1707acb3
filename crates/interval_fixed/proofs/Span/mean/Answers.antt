use Rattle.std.proofs.{Common.arith, lemmas.List.drop_all}
use Rattle.interval_fixed.proofs.Enclosed.{mean_encloses, mean_gap_within}
use Rattle.interval_fixed.proofs.Span.mean.Goals as goal

pub returns-clause-encloses : goal.returns-clause-encloses
returns-clause-encloses c values within =
    let none = drop_all c.loop-i.i c.args.row.now c.loop-i-test.false in
    let lo = rw none at c.loop-i.invariant.reported_lo in
    let hi = rw none at c.loop-i.invariant.reported_hi in
    let at = mean_encloses c.args.row.now c.args.spans.now values within in
    (omega (arith, lo, hi, at.0), omega (arith, lo, hi, at.1))

pub returns-clause-gap : goal.returns-clause-gap
returns-clause-gap c most gaps =
    let none = drop_all c.loop-i.i c.args.row.now c.loop-i-test.false in
    let lo = rw none at c.loop-i.invariant.reported_lo in
    let hi = rw none at c.loop-i.invariant.reported_hi in
    omega (arith, lo, hi, mean_gap_within c.args.row.now c.args.spans.now most c.requires.row c.requires.as_many gaps)

use Rattle.departure_table.proofs.{Common.{ap, MeanSpan, Connection, Leg}, Looks.{last_is_greatest, none_is_greatest, no_greatest}}
use Rattle.departure_table.proofs.greatest.Goals as goal

pub returns-in_err-leg : goal.returns-in_err-leg
returns-in_err-leg c =
    let none = c.from_residual.ensures in
    rw none (no_greatest c.args.network.now c.args.query.now c.args.scanned.now c.requires.solves c.requires.differ c.requires.second c.in_err-leg.ensures c.args.first.0)

pub returns-then-by-first : goal.returns-then-by-first
returns-then-by-first c =
    let last : MeanSpan × Leg = (c.in_ok-leg.field-0-0, c.in_ok-leg.leg) in
    let (x, is, past) = c.in_ok-leg.ensures in
    none_is_greatest c.args.network.now c.args.query.now c.args.scanned.now c.requires.solves c.requires.differ c.requires.second last x is past
    c.args.first.0 c.get.result.dep (ap (λ (k : Connection). k.dep.0) c.get.ensures.connection) c.if-by-first.true

pub returns : goal.returns
returns c =
    let last : MeanSpan × Leg = (c.in_ok-leg.field-0-0, c.in_ok-leg.leg) in
    let (x, is, past) = c.in_ok-leg.ensures in
    last_is_greatest c.args.network.now c.args.query.now c.args.scanned.now c.requires.solves c.requires.differ c.requires.second last x is past
    c.args.first.0 c.get.result.dep (ap (λ (k : Connection). k.dep.0) c.get.ensures.connection) c.if-by-first.false

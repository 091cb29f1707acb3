use Rattle.delay_table.proofs.{Common.{◌∙◌, ap, sym, Some, if_raised, arith}, Counted.{column-other, lines-other}, Sound.{column-first, line-first, fault-same, delays-same, groups-count}}
use Rattle.delay_table.proofs.table.DelayTable.read.Goals as goal

pub returns-in-Some-clause-fault : goal.returns-in-Some-clause-fault
returns-in-Some-clause-fault c = λ free. column-first c.args.rows.now c.in-Some.fault c.in-Some.ensures

pub returns-in-Some-clause-count : goal.returns-in-Some-clause-count
returns-in-Some-clause-count c = λ n e. absurd (column-other c.args.rows.now n (sym c.in-Some.ensures ∙ ap Some e))

pub returns-in_err-read-clause-fault : goal.returns-in_err-read-clause-fault
returns-in_err-read-clause-fault c = if_raised _ c.from_residual.result c.from_residual.ensures (λ free.
    line-first c.args.rows.now _ c.in_default.ensures (c.in_err-read.ensures.err free))

pub returns-in_err-read-clause-count : goal.returns-in_err-read-clause-count
returns-in_err-read-clause-count c = grind (arith, if_raised, lines-other)

pub returns : goal.returns
returns c = grind (arith, delays-same, fault-same, groups-count)

use Rattle.delay_table.proofs.{Common.{◌≡◌, ℕ, None, subst, arith, first_below, row_count, line_fault, IsReadTo, if_raised, first-zero, first-next, first-at}, ReadFacts.read-nothing}
use Rattle.delay_table.proofs.Sound.{is-read}
use Rattle.delay_table.proofs.reading.read_rows.Goals as goal

pub loop-i-init : goal.loop-i-init
loop-i-init c =
    (first-zero (line_fault c.args.table.now.rows.now), read-nothing c.args.table.now.rows.now c.with_key.result c.new.result.items c.with_key.ensures c.new.ensures.items)

pub returns-in_err-add_line-clause-err : goal.returns-in_err-add_line-clause-err
returns-in_err-add_line-clause-err c = if_raised _ c.from_residual.result c.from_residual.ensures (λ free.
    let t = c.args.table.now.rows.now in
    first-at (line_fault t) c.loop-i.i (row_count t) _ (omega arith) c.loop-i.invariant.0 (c.in_err-add_line.ensures.err free))

pub loop-i-preserved : goal.loop-i-preserved
loop-i-preserved c = (first-next (line_fault c.args.table.now.rows.now) c.loop-i.i None c.loop-i.invariant.0 c.in_ok-add_line.ensures.none, c.in_ok-add_line.ensures.read)

pub invariant_of-result : goal.invariant_of-result
invariant_of-result c =
    let t = c.args.table.now.rows.now in
    let groups = c.loop-i.reading.groups in
    let rows = c.loop-i.reading.rows.items in
    let end : c.loop-i.i ≡ row_count t = omega (arith, c.loop-i-test.false, c.loop-i.auto.i-end, c.count-i-end.ensures.count) in
    let Read : ℕ → Type 0 = λ n. (first_below (line_fault t) n ≡ None) × IsReadTo t n groups rows in
    let all = subst Read end c.loop-i.invariant in
    record { read = is-read t groups rows all.0 all.1 }

pub returns-clause-none : goal.returns-clause-none
returns-clause-none c = grind arith

pub returns-clause-read : goal.returns-clause-read
returns-clause-read c = grind arith

use Rattle.lower_proof.proofs.{Common.{◌≡◌, ◌∙◌, ◌<◌, ◌≤◌, ◌⊎◌, ap, inl, inr, arith, max, row_count}, ReadRows.{read_first, read_on, fault_here, ends_here, read_all}}
use Rattle.lower_proof.proofs.reader.read_values.Goals.{then-row-count-via-then-row-count, then-row-count-via-else-row-count+then-row-most}
use Rattle.csv_rows.proofs.FaultLemmas.{if_raised}
use Rattle.lower_proof.proofs.reader.read_values.Goals as goal

pub loop-row-init : goal.loop-row-init
loop-row-init c = read_first _ _ _ _ _ c.in_ok-values.ensures.as_many c.in_ok-values.ensures.none

pub returns-then-row-count-clause-fault : goal.returns-then-row-count-clause-fault
returns-then-row-count-clause-fault c =
    let t = c.args.rows.now in
    let loop = c.loop-row in
    let end : c.max-row-end.result ≡ max (row_count t) c.args.stated = c.max-row-end.ensures ∙ ap (λ k. max k c.args.stated) c.count-count.ensures.count in
    let within : loop.row < max (row_count t) c.args.stated = omega (arith, end) in
    let ends : (row_count t ≤ loop.row) ⊎ (c.args.stated ≤ loop.row) = elim c.then-row-count.branch [
      | then-row-count-via-then-row-count w ↦ inl (omega (arith, c.count-count.ensures.count))
      | then-row-count-via-else-row-count+then-row-most w ↦ inr (omega arith)
    ] in
    inr (ends_here _ _ _ _ _ _ _ loop.invariant within ends)

pub returns-in_err-reported-clause-fault : goal.returns-in_err-reported-clause-fault
returns-in_err-reported-clause-fault c = if_raised _ c.from_residual-in_err-reported.result c.from_residual-in_err-reported.ensures
    (inr (fault_here _ _ _ _ _ _ _ c.loop-row.invariant _ (omega (arith, c.count-count.ensures.count)) (omega arith) (rw c.of_row.ensures at c.in_err-reported.ensures.reported)))

pub loop-row-preserved : goal.loop-row-preserved
loop-row-preserved c =
    let reported = c.in_ok-reported.ensures in
    rw c.from.ensures (read_on _ _ _ _ _ _ _ c.loop-row.invariant c.in_ok-reported.reported (omega (arith, c.count-count.ensures.count))
    (omega arith) (rw c.of_row.ensures at reported.reported) reported.there)

pub returns-clause-reported : goal.returns-clause-reported
returns-clause-reported c =
    let end = c.max-row-end.ensures ∙ ap (λ k. max k c.args.stated) c.count-count.ensures.count in
    read_all _ _ _ _ _ _ _ c.loop-row.invariant (omega (arith, end))

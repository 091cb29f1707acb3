use Rattle.cut_file.proofs.Common.{rules, ◌≡◌, ℕ, true, length, sym, ap, ◌∙◌, arith, option_map, first_below, before_inside, soonest-next, soonest-first, CutFault, run_fault, run_of, step_of}
use Rattle.cut_file.proofs.Misfits.{misfit_is}
use Rattle.cut_file.proofs.order.first_misfit.Goals as goal

pub loop-k-preserved : goal.loop-k-preserved
loop-k-preserved c = λ t runs places read none.
    let k = c.loop-k.k in
    let rows = c.args.rows.now in
    let keys = c.args.keys.now in
    soonest-next (run_fault t) (length rows) keys k c.loop-k.first c.sooner-first.result c.fault_after.result (c.requires.sorted.inside k (omega arith))
    (misfit_is t runs places rows keys read none k (omega arith) c.before_at.result c.before_at.ensures ∙ sym c.fault_after.ensures) c.sooner-first.ensures
    (c.loop-k.invariant t runs places read none)

pub fault_after-requires-clause-here : goal.fault_after-requires-clause-here
fault_after-requires-clause-here c = c.requires.sorted.inside c.loop-k.k (omega arith)

pub fault_after-requires-clause-before : goal.fault_after-requires-clause-before
fault_after-requires-clause-before c = grind (arith, before_inside)

pub returns : goal.returns
returns c = λ t runs places read none.
    let rows = c.args.rows.now in
    let same : option_map (λ (x : ℕ × CutFault). x.1) c.loop-k.first ≡ c.map.result = search rules in
    ap (first_below (run_fault t)) (sym read.size)
    ∙ soonest-first (run_fault t) (length rows) c.args.keys.now (λ i. true) (run_of rows) (step_of rows) c.requires.sorted (λ i never. absurd (cc)) c.loop-k.k (omega arith)
    c.loop-k.first (c.loop-k.invariant t runs places read none) ∙ same

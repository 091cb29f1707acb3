use Rattle.cut_file.proofs.{Common.{◌+◌, option_map, ap, ◌∙◌, option_or, first_below, row_count, DuplicateStep, run_fault}, Repeats.repeats_first}
use Rattle.cut_file.proofs.order.run_fault.Goals as goal

pub returns-in-Some : goal.returns-in-Some
returns-in-Some c = λ t runs places read.
    ap (λ o. option_or o (first_below (run_fault t) (row_count t)))
    (repeats_first t runs places c.args.rows.now c.args.keys.now read c.first_repeat.result c.first_repeat.ensures ∙ ap (option_map (λ i. DuplicateStep (i + 2))) c.in-Some.is)

pub returns-in-None : goal.returns-in-None
returns-in-None c = λ t runs places read.
    let none = repeats_first t runs places c.args.rows.now c.args.keys.now read c.first_repeat.result c.first_repeat.ensures ∙ ap (option_map (λ i. DuplicateStep (i + 2))) c.in-None.is in
    ap (λ o. option_or o (first_below (run_fault t) (row_count t))) none ∙ c.first_misfit.ensures t runs places read none

use Rattle.meat_scan.proofs.{Common.{◌∙◌, arith}, Ends.value_solved, Reserves.{fits_again, fits_any}}
use Rattle.meat_scan.proofs.start_value.Goals as goal

pub returns-clause-solves : goal.returns-clause-solves
returns-clause-solves g c = grind (arith, value_solved)

pub returns-clause-tables_fit : goal.returns-clause-tables_fit
returns-clause-tables_fit g c fit =
    let used = c.scan_all-tables in
    let made = c.emptied.ensures in
    fits_again c.args.network.now c.args.tables c.emptied.result used.result.0.profiles fit made.empty made.spare
    used.ensures.capacity (made.places ∙ used.ensures.places) (made.runs ∙ used.ensures.runs)

pub returns-clause-by : goal.returns-clause-by
returns-clause-by g c fit last =
    let used = c.scan_all-tables in
    let made = c.emptied.ensures in
    fits_any c.args.network.now last c.emptied.result (fits_again c.args.network.now c.args.tables c.emptied.result used.result.0.profiles fit made.empty made.spare
    used.ensures.capacity (made.places ∙ used.ensures.places) (made.runs ∙ used.ensures.runs))

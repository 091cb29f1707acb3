use Rattle.clock_text.proofs.{Common.{arith, ◌≡◌, ◌∙◌, pos, w32, to_z_pos, signed_arith, epoch_day}, DateFacts.year_from}
use Rattle.clock_text.proofs.moments.date_since_1970.Goals as goal

pub returns-clause-year : goal.returns-clause-year
returns-clause-year c =
    let day : epoch_day c.date_from.result ≡ pos c.args.days = c.date_from.ensures ∙ to_z_pos w32 c.args.days (omega arith) in
    year_from c.date_from.result (omega (arith, signed_arith, day))

use Rattle.clock_text.proofs.{Common.{arith, ◌≡◌, pos, FitsSigned, w8, w32, ◌∙◌, ap, w16, to_z_pos, to_z-of_z, signed_arith, epoch_day}, DateFacts.{day_is, after_epoch}}
use Rattle.clock_text.proofs.moments.day_of.Goals as goal

pub returns-in-Ok-clause-value : goal.returns-in-Ok-clause-value
returns-in-Ok-clause-value c =
    let fits : FitsSigned w32 c.to_unix_epoch_day.result = omega (arith, signed_arith) in
    let v = c.in-Ok.ensures.value in
    simp to_z-of_z (day_is c.in-Ok.date c.args.year c.args.month c.args.day (v.0 ∙ to_z_pos w16 c.args.year (omega arith)) (v.1 ∙ to_z_pos w8 c.args.month (omega arith))
    (v.2 ∙ to_z_pos w8 c.args.day (omega arith)) c.to_unix_epoch_day.result (c.to_unix_epoch_day.ensures.value ∙ ap epoch_day c.to_plain.ensures))

pub returns-in-Ok-clause-after : goal.returns-in-Ok-clause-after
returns-in-Ok-clause-after c =
    let fits : FitsSigned w32 c.to_unix_epoch_day.result = omega (arith, signed_arith) in
    let v = c.in-Ok.ensures.value in
    let year : c.in-Ok.date.year ≡ pos c.args.year = v.0 ∙ to_z_pos w16 c.args.year (omega arith) in
    let number : c.to_unix_epoch_day.result ≡ epoch_day c.in-Ok.date = c.to_unix_epoch_day.ensures.value ∙ ap epoch_day c.to_plain.ensures in
    λ h. simp to_z-of_z (rw (number, year) (after_epoch c.args.year c.in-Ok.date.month c.in-Ok.date.day h c.in-Ok.date.day_in.0))

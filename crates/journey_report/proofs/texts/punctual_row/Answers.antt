use Rattle.journey_report.proofs.{Common.{[], ◌∷◌, ap, ◌∙◌, punctual_row}, RowLemmas.row-of}
use Rattle.late_chance.specs.Chances.{chance_text}
use Rattle.journey_report.proofs.texts.punctual_row.Goals as goal

pub returns : goal.returns
unfolding punctual_row
returns c =
    let promise = c.as_slice-3.ensures ∙ c.write_moment-promise.ensures.text in
    let lower = c.as_slice-4.ensures ∙ c.write_chance-lower.ensures ∙ ap chance_text c.lo.ensures.lo in
    let upper = c.as_slice-5.ensures ∙ c.write_chance-upper.ensures ∙ ap chance_text c.hi.ensures.hi in
    row-of c.row.result c.row.ensures
    (λ i. c.as_slice.ensures i ∷ c.as_slice-2.ensures i ∷ promise i ∷ lower i ∷ upper i ∷ [])

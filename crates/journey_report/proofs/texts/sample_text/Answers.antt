use Rattle.journey_report.proofs.{Common.{[], ◌∷◌, ap, ◌∙◌, decimal, sample_text, nanos_text}, RowLemmas.row-of}
use Rattle.journey_report.proofs.texts.sample_text.Goals as goal

pub returns : goal.returns
unfolding sample_text
returns c =
    let size = c.as_bytes.ensures.value ∙ c.format.ensures.text in
    let connections = c.as_bytes-2.ensures.value ∙ c.format-2.ensures.text in
    let legs = c.as_bytes-3.ensures.value ∙ c.format-3.ensures.text ∙ ap decimal c.leg_count-legs.ensures in
    let lower = c.as_slice-2.ensures ∙ c.write_nanos-lower.ensures.text ∙ ap nanos_text c.lo.ensures.lo in
    let upper = c.as_slice-3.ensures ∙ c.write_nanos-upper.ensures.text ∙ ap nanos_text c.hi.ensures in
    row-of c.row.result c.row.ensures
    (λ i. c.as_slice.ensures i ∷ size i ∷ connections i ∷ legs i ∷ lower i ∷ upper i ∷ [])

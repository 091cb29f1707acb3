use Rattle.journey_report.proofs.{Common.{[], ◌∷◌, ap, ◌∙◌, encloses_text, nanos_text}, RowLemmas.row-of}
use Rattle.journey_report.proofs.texts.encloses_text.Goals as goal

pub returns : goal.returns
unfolding encloses_text
returns c =
    let source = c.as_bytes.ensures.value ∙ c.source.ensures in
    let target = c.as_bytes-2.ensures.value ∙ c.target.ensures in
    let start = c.as_slice-2.ensures ∙ c.write_moment-start.ensures.text in
    let deadline = c.as_slice-3.ensures ∙ c.write_moment-deadline.ensures.text in
    let lower = c.as_slice-4.ensures ∙ c.write_nanos-lower.ensures.text ∙ ap nanos_text c.lo.ensures.lo in
    let upper = c.as_slice-5.ensures ∙ c.write_nanos-upper.ensures.text ∙ ap nanos_text c.hi.ensures in
    row-of c.row.result c.row.ensures
    (λ i. c.as_slice.ensures i ∷ source i ∷ target i ∷ start i ∷ deadline i ∷ lower i ∷ upper i ∷ [])

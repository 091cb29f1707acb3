use Rattle.journey_report.proofs.{Common.{[], ◌∷◌, ◌∙◌}, RowLemmas.row-of}
use Rattle.journey_report.proofs.texts.moments_row.Goals as goal

pub returns : goal.returns
returns c =
    let source = c.as_bytes-2.ensures.value ∙ c.source.ensures in
    let target = c.as_bytes-3.ensures.value ∙ c.target.ensures in
    let first = c.as_slice.ensures ∙ c.write_moment-first.ensures.text in
    let second = c.as_slice-2.ensures ∙ c.write_moment-second.ensures.text in
    let third = c.as_slice-3.ensures ∙ c.write_moment-third.ensures.text in
    row-of c.row.result c.row.ensures
    (λ i. c.as_bytes.ensures.value i ∷ source i ∷ target i ∷ first i ∷ second i ∷ third i ∷ [])

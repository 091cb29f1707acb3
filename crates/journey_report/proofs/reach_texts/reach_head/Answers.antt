use Rattle.journey_report.proofs.{Common.{[], ◌∷◌, ◌∙◌, reach_head}, RowLemmas.row-of}
use Rattle.journey_report.proofs.reach_texts.reach_head.Goals as goal

pub returns : goal.returns
unfolding reach_head
returns c =
    let target = c.as_bytes.ensures.value ∙ c.target.ensures in
    let first = c.as_slice-3.ensures ∙ c.write_moment-first.ensures.text in
    let deadline = c.as_slice-4.ensures ∙ c.write_moment-deadline.ensures.text in
    let count = c.as_bytes-2.ensures.value ∙ c.format.ensures.text in
    row-of c.row.result c.row.ensures (λ i. c.as_slice.ensures i ∷ c.as_slice-2.ensures i ∷ target i ∷ first i ∷ deadline i ∷ count i ∷ [])

use Rattle.journey_report.proofs.{Common.{[], ◌∷◌, ◌∙◌, departures_head}, RowLemmas.row-of}
use Rattle.journey_report.proofs.departure_texts.departures_head.Goals as goal

pub returns : goal.returns
unfolding departures_head
returns c =
    let source = c.as_bytes.ensures.value ∙ c.source.ensures in
    let target = c.as_bytes-2.ensures.value ∙ c.target.ensures in
    let first = c.as_slice-3.ensures ∙ c.write_moment-first.ensures.text in
    let last = c.as_slice-4.ensures ∙ c.write_moment-last.ensures.text in
    let deadline = c.as_slice-5.ensures ∙ c.write_moment-deadline.ensures.text in
    let count = c.as_bytes-3.ensures.value ∙ c.format.ensures.text in
    row-of c.row.result c.row.ensures
    (λ i. c.as_slice.ensures i ∷ c.as_slice-2.ensures i ∷ source i ∷ target i ∷ first i ∷ last i ∷ deadline i ∷ count i ∷ [])

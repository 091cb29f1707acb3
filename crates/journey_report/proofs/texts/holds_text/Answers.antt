use Rattle.journey_report.proofs.{Common.{[], ◌∷◌, ◌∙◌, holds_text}, RowLemmas.row-of}
use Rattle.journey_report.proofs.texts.holds_text.Goals as goal

pub returns : goal.returns
unfolding holds_text
returns c =
    let source = c.as_bytes.ensures.value ∙ c.source.ensures in
    let target = c.as_bytes-2.ensures.value ∙ c.target.ensures in
    let start = c.as_slice-2.ensures ∙ c.write_moment-start.ensures.text in
    let deadline = c.as_slice-3.ensures ∙ c.write_moment-deadline.ensures.text in
    let least = c.as_slice-4.ensures.value ∙ c.in_ok-least.ensures in
    row-of c.row.result c.row.ensures
    (λ i. c.as_slice.ensures i ∷ source i ∷ target i ∷ start i ∷ deadline i ∷ least i ∷ [])

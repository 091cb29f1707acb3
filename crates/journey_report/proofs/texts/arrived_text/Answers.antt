use Rattle.journey_report.proofs.{Common.{[], ◌∷◌, ◌∙◌, arrived_text}, RowLemmas.row-of}
use Rattle.journey_report.proofs.texts.arrived_text.Goals as goal

pub returns : goal.returns
unfolding arrived_text
returns c =
    let moment = c.as_slice-2.ensures ∙ c.write_moment-moment.ensures.text in
    row-of c.row.result c.row.ensures
    (λ i. c.as_slice.ensures i ∷ c.as_bytes.ensures.value i ∷ moment i ∷ [])

use Rattle.journey_report.proofs.{Common.{[], ◌∷◌, ap, ◌∙◌, nanos_text, name_is, from_text}, RowLemmas.row-of}
use Rattle.journey_report.proofs.reach_texts.from_text.Goals as goal

pub returns : goal.returns
unfolding from_text
returns c =
    let place = c.as_bytes.ensures.value ∙ name_is c.args.names.now.places c.args.from.now.place.0 c.place_name.result.now c.place_name.ensures.name in
    let latest = c.as_slice-2.ensures ∙ c.write_moment-latest.ensures.text in
    let lower = c.as_slice-3.ensures ∙ c.write_nanos-lower.ensures.text ∙ ap nanos_text c.lo.ensures.lo in
    let upper = c.as_slice-4.ensures ∙ c.write_nanos-upper.ensures.text ∙ ap nanos_text c.hi.ensures in
    row-of c.row.result c.row.ensures (λ i. c.as_slice.ensures i ∷ place i ∷ latest i ∷ lower i ∷ upper i ∷ [])

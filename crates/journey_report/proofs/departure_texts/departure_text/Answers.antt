use Rattle.journey_report.proofs.{Common.{[], ◌∷◌, ap, ◌∙◌, arith, decimal, nanos_text, Connection, run_named, name_is, run_name, departure_text}, RowLemmas.row-of}
use Rattle.journey_report.proofs.departure_texts.departure_text.Goals as goal

pub returns : goal.returns
unfolding departure_text
returns c =
    let names = c.args.timetable.now.names in
    let by = c.as_slice-2.ensures ∙ c.write_moment-by.ensures.text in
    let run = c.as_bytes.ensures.value ∙ name_is names.runs c.get-enter.result.run.0 c.run_name.result.now c.run_name.ensures.name
    ∙ ap (λ (k : Connection). run_name names k.run.0) c.get-enter.ensures.connection in
    let step = c.as_bytes-2.ensures.value ∙ c.format.ensures.text ∙ ap (λ (k : Connection). decimal k.step) c.get-enter.ensures.connection in
    let lower = c.as_slice-3.ensures ∙ c.write_nanos-lower.ensures.text ∙ ap nanos_text c.lo.ensures.lo in
    let upper = c.as_slice-4.ensures ∙ c.write_nanos-upper.ensures.text ∙ ap nanos_text c.hi.ensures in
    row-of c.row.result c.row.ensures (λ i. c.as_slice.ensures i ∷ by i ∷ run i ∷ step i ∷ lower i ∷ upper i ∷ [])

pub run_name-requires : goal.run_name-requires
run_name-requires c = grind (arith, run_named)

pub write_moment-by-requires : goal.write_moment-by-requires
write_moment-by-requires c = grind arith

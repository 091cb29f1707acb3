use Rattle.journey_report.proofs.{Common.{[], ◌∷◌, ap, ◌∙◌, moment_text, place_name, run_name, Connection, dep_printable, arr_printable, name_is, ride_text, arith}, RowLemmas.row-of}
use Rattle.journey_report.proofs.TextLemmas.{ride_arrival}
use Rattle.journey_report.proofs.texts.ride_text.Goals as goal

pub write_moment-arrival-requires : goal.write_moment-arrival-requires
write_moment-arrival-requires c = ride_arrival c.args.timetable.now.network c.args.timetable.now.valid c.args.ride.now c.requires

pub write_moment-dep-requires : goal.write_moment-dep-requires
write_moment-dep-requires c = grind (arith, dep_printable)

pub write_moment-arr-requires : goal.write_moment-arr-requires
write_moment-arr-requires c = grind (arith, arr_printable)

pub run_name-requires : goal.run_name-requires
run_name-requires c = grind arith

pub place_name-requires : goal.place_name-requires
place_name-requires c = grind arith

pub place_name-requires-2 : goal.place_name-requires-2
place_name-requires-2 c = grind arith

pub returns : goal.returns
unfolding ride_text
returns c =
    let names = c.args.timetable.now.names in
    let enter = c.get-enter.ensures.connection in
    let exit = c.get-exit.ensures.connection in
    let run = c.as_bytes.ensures.value ∙ name_is names.runs c.get-enter.result.run.0 c.run_name.result.now c.run_name.ensures.name ∙ ap (λ (k : Connection). run_name names k.run.0) enter in
    let from = c.as_bytes-2.ensures.value ∙ name_is names.places c.get-enter.result.from.0 c.place_name.result.now c.place_name.ensures.name
    ∙ ap (λ (k : Connection). place_name names k.from.0) enter in
    let dep = c.as_slice-2.ensures ∙ c.write_moment-dep.ensures.text ∙ ap (λ (k : Connection). moment_text k.dep.0) enter in
    let to = c.as_bytes-3.ensures.value ∙ name_is names.places c.get-exit.result.to.0 c.place_name-2.result.now c.place_name-2.ensures.name
    ∙ ap (λ (k : Connection). place_name names k.to.0) exit in
    let arr = c.as_slice-3.ensures ∙ c.write_moment-arr.ensures.text ∙ ap (λ (k : Connection). moment_text k.arr.0) exit in
    let delay = c.as_bytes-4.ensures.value ∙ c.format.ensures.text in
    let arrival = c.as_slice-4.ensures ∙ c.write_moment-arrival.ensures.text in
    row-of c.row.result c.row.ensures (λ i. c.as_slice.ensures i ∷ run i ∷ from i ∷ dep i ∷ to i ∷ arr i ∷ delay i ∷ arrival i ∷ [])

use Rattle.stop_times.proofs.{Common.{◌≡◌, List, ℕ, length, ap, subst, arith, Err, common_steps, StopTimes, loaded_from, table_of, stop_times_from, named_by}, TimeLemmas.timed_rows_are}
use Rattle.stop_times.proofs.TimeLemmas.{order_faulty, order_sound, visits_of_rows, visits_of_text}
use Rattle.stop_times.proofs.timetable.read_stop_times.Goals as goal

pub in_order-requires : goal.in_order-requires
in_order-requires c = omega (arith, ap length c.as_slice-2.ensures.value, c.in_ok-timed.ensures.few, c.args.limits.now.stop_times_in)

pub returns-in-Ok : goal.returns-in-Ok
returns-in-Ok c = grind (arith, timed_rows_are, visits_of_rows, common_steps, visits_of_text, order_sound)

pub returns-clause-fault : goal.returns-clause-fault
returns-clause-fault c = λ free.
    let named = named_by c.args.trips.now c.args.stops.now c.args.places.now in
    let most = c.args.limits.now.stop_times in
    let t = table_of c.as_slice.result.now in
    let read = timed_rows_are named most t c.in_ok-timed.timed.items c.as_slice-2.result.now c.as_slice-2.ensures.value c.in_ok-timed.ensures.rows
    c.in_ok-timed.ensures.header c.in_ok-timed.ensures.few c.in_ok-timed.ensures.rest in
    subst (λ (bytes : List ℕ). stop_times_from (loaded_from StopTimes most (table_of bytes)) named ≡ Err c.in-Err.fault)
    c.as_slice.ensures.value (order_faulty named most t c.as_slice-2.result.now c.in-Err.fault read (c.in-Err.ensures.reports.why free))

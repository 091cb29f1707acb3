use Rattle.stop_times.proofs.{Common.{◌≤◌, List, [], length, slice_index_or, ap, sym, subst, ◌∙◌, StopRow, most_stop_times, AreStopTimes}, VisitLemmas.{bounded, parted_count, parted_are}}
use Rattle.stop_times.proofs.VisitLemmas.{parted_few}
use Rattle.stop_times.proofs.visits.visits_of.Goals as goal

pub new-requires : goal.new-requires
new-requires c =
    bounded c.args.rows.now c.args.keys.now c.requires.sorted c.in_ok-visits.visits.items c.in_ok-visits.ensures
    c.in_ok-bounds.bounds.items c.args.trips c.in_ok-bounds.ensures.size c.in_ok-bounds.ensures.spans

pub returns-clause-size : goal.returns-clause-size
returns-clause-size c =
    ap length c.new.ensures ∙ parted_count c.args.rows.now c.args.keys.now c.requires.sorted c.in_ok-visits.visits.items c.in_ok-visits.ensures
    c.in_ok-bounds.bounds.items c.args.trips c.in_ok-bounds.ensures.size c.in_ok-bounds.ensures.spans

pub returns-clause-each : goal.returns-clause-each
returns-clause-each c = λ trip h.
    let P : List (List StopRow) → Type 0 = λ v. AreStopTimes c.args.rows.now trip (slice_index_or v trip []) in
    subst P (sym c.new.ensures)
    (parted_are c.args.rows.now c.args.keys.now c.requires.sorted c.in_ok-visits.visits.items c.in_ok-visits.ensures
    c.in_ok-bounds.bounds.items c.args.trips c.in_ok-bounds.ensures.size c.in_ok-bounds.ensures.spans c.requires.once trip h)

pub returns-clause-few : goal.returns-clause-few
returns-clause-few c = λ trip h.
    let P : List (List StopRow) → Type 0 = λ v. length (slice_index_or v trip []) ≤ most_stop_times in
    subst P (sym c.new.ensures)
    (parted_few c.args.rows.now c.args.keys.now c.requires.sorted c.in_ok-visits.visits.items c.in_ok-visits.ensures
    c.in_ok-bounds.bounds.items c.args.trips c.in_ok-bounds.ensures.size c.in_ok-bounds.ensures.spans most_stop_times c.requires.few trip h)

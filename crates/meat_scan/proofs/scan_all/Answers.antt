use Rattle.meat_scan.proofs.{Common.{◌∙◌, ap, sym, subst, length, capacity_at, arith, refl, written_back, FitsTablesBy, common_steps}, States.{next_state, last_state, rules_end, id_there, room_for_run, room_for_rows}}
use Rattle.meat_scan.proofs.States.{room_next, found_rows-profiles, skipped_state}
use Rattle.meat_scan.proofs.scan_all.Goals as goal

pub loop-id-init : goal.loop-id-init
loop-id-init g c =
    let fit = subst (FitsTablesBy c.args.network.now c.args.query.now.deadline.0) (sym c.tables.view_is) c.requires.tables_fit in
    let rest = g.B.BackwardOrder.rest c.skip_after.new.self c.args.network.now in
    let order = g.B.BackwardOrder.rest c.args.order.now c.args.network.now in
    record {
      valid = fit.valid;
      fits = c.skip_after.ensures.fits;
      room = fit.room order rest c.requires.whole c.skip_after.ensures.up_to;
      state = skipped_state g.V.Score.laws c.args.network.now fit.valid c.args.query.now order c.requires.whole _ _ fit.empty rest c.skip_after.ensures.up_to;
      same_capacity = λ place. refl;
      same_runs = refl;
    }

pub invariant_of-site : goal.invariant_of-site
invariant_of-site g c =
    let loop = c.loop-id.invariant in
    let state = rw c.in-Some.ensures.last at loop.state in
    record { there = id_there c.args.network.now loop.valid _ c.requires.whole _ state.taken c.in-Some.id state.split }

pub scan_one-start-requires-clause-run : goal.scan_one-start-requires-clause-run
scan_one-start-requires-clause-run g c = grind (arith, id_there, room_for_run)

pub scan_one-start-requires-clause-room : goal.scan_one-start-requires-clause-room
scan_one-start-requires-clause-room g c = grind (arith, common_steps, id_there, room_for_rows)

pub loop-id-preserved : goal.loop-id-preserved
loop-id-preserved g c =
    let loop = c.loop-id.invariant in
    let one = c.scan_one-start in
    let rest = g.B.BackwardOrder.rest c.next.new.self c.args.network.now in
    let room = rw c.in-Some.ensures.last at loop.room in
    let state = rw c.in-Some.ensures.last at loop.state in
    let there = id_there c.args.network.now loop.valid _ c.requires.whole _ state.taken c.in-Some.id state.split in
    let profiles_whole = c.loop-id.profiles.ok.0 in
    let profiles_are = written_back one.new.profiles c.loop-id.profiles.items c.loop-id.profiles.len (omega arith) (omega arith) in
    let old = c.deref_mut.ensures.value in
    rw profiles_are (record {
      valid = loop.valid;
      fits = c.in-Some.ensures.fits;
      room = room_next c.args.network.now rest c.in-Some.id there c.loop-id.profiles.items c.loop-id.exits room one.new.profiles
          one.new.exits (rw old at one.ensures.spare) (rw old at one.ensures.places) one.ensures.runs;
      state = next_state g.V.Score.laws c.args.network.now loop.valid c.args.query.now
          (g.B.BackwardOrder.rest c.args.order.now c.args.network.now) c.requires.whole rest c.in-Some.id c.loop-id.profiles.items one.new.profiles
          c.loop-id.exits one.new.exits c.loop-id.start one.result state (rw old at one.ensures.kept);
      same_capacity = λ place. rw old at (one.ensures.capacity place) ∙ loop.same_capacity place;
      same_runs = one.ensures.runs ∙ loop.same_runs;
    })

pub returns : goal.returns
returns g c =
    let loop = c.loop-id.invariant in
    let order = g.B.BackwardOrder.rest c.args.order.now c.args.network.now in
    let rest = g.B.BackwardOrder.rest c.loop-id.order c.args.network.now in
    let reported = c.in_default.ensures.none.0 refl in
    let rows_are = found_rows-profiles c.loop-id.start c.args.query.now.target.0 c.loop-id.profiles.items in
    record {
      answers = last_state g.V.Score.laws c.args.network.now loop.valid c.args.query.now order c.requires.whole rest c.loop-id.profiles.items c.loop-id.exits _
          c.requires.differ reported rows_are loop.state;
      rules = rules_end g.V.Score.laws c.args.network.now loop.valid c.args.query.now order c.requires.whole rest c.loop-id.profiles.items c.loop-id.exits _ reported rows_are loop.state;
      valid = loop.valid;
      fits = c.in_default.ensures.fits;
      capacity = λ place. loop.same_capacity place ∙ ap (λ t. capacity_at t.profiles place) c.tables.view_is;
      places = loop.room.places;
      runs = loop.same_runs ∙ ap (λ t. length t.exits) c.tables.view_is;
    }

use Rattle.departure_table.proofs.Common.{◌≡◌, ◌-◌, ◌++◌, List, [], ◌∷◌, Some, append-nil, append_assoc, refl, sym, ap, subst, arith, inl, inr, ◌∙◌, Connection, Leg, Moment, MeanSpan}
use Rattle.departure_table.proofs.{Common.{DepartureRow, row_of_choice, row_found, AreLooked}, Growth.{grown, ends_after, ends_with_none}, Looks.{none_ahead, looks_ahead}}
use Rattle.std.specs.Option.{option_map}
use Rattle.departure_table.proofs.table.Goals as goal

pub returns-in_default-clause-table : goal.returns-in_default-clause-table
returns-in_default-clause-table c =
    ends_with_none _ _ _ _ _ _ c.loop-next.invariant.table
    (none_ahead c.args.network.now c.args.query.now c.args.scanned.now c.requires.solves c.requires.differ c.requires.second c.loop-next.next (sym c.in_default.ensures))

pub returns-in_default-clause-looked : goal.returns-in_default-clause-looked
returns-in_default-clause-looked c =
    subst (AreLooked (row_found c.args.network.now c.args.query.now c.args.scanned.now) c.args.last.0 c.args.first.0) (append-nil c.loop-next.rows)
    (c.loop-next.invariant.looked [] (inr (ap (option_map (row_of_choice c.args.network.now)) (sym c.in_default.ensures))))

pub get-requires : goal.get-requires
get-requires c = grind arith

pub loop-next-smaller : goal.loop-next-smaller
loop-next-smaller c =
    let row : DepartureRow = record { by = c.get.result.dep; bounds = c.in-Some.value.0; leg = c.in-Some.leg } in
    let ahead = looks_ahead c.args.network.now c.args.query.now c.args.scanned.now c.requires.solves c.requires.differ c.requires.second (c.loop-next.next - 1) (c.in-Some.value, c.in-Some.leg)
    (sym c.in-Some.ensures) row refl refl (ap (λ (k : Connection). k.dep.0) c.get.ensures.connection) in
    omega (arith, ahead.0, c.loop-next-test.true)

pub loop-next-preserved : goal.loop-next-preserved
loop-next-preserved c =
    let n = c.args.network.now in
    let look = row_found n c.args.query.now c.args.scanned.now in
    let before = c.loop-next.invariant in
    let x = c.loop-next.next - 1 in
    let choice : MeanSpan × Leg = (c.in-Some.value, c.in-Some.leg) in
    let row_by : Moment → DepartureRow = λ by. record { by = by; bounds = c.in-Some.value.0; leg = c.in-Some.leg } in
    let row = row_by c.get.result.dep in
    let dep = ap (λ (k : Connection). k.dep.0) c.get.ensures.connection in
    let ahead = looks_ahead n c.args.query.now c.args.scanned.now c.requires.solves c.requires.differ c.requires.second x choice (sym c.in-Some.ensures) row refl refl dep in
    let found : look c.loop-next.next ≡ Some row =
    sym (ap (λ (k : Connection). Some (row_by k.dep)) c.get.ensures.connection ∙ ap (option_map (row_of_choice n)) c.in-Some.ensures) in
    let grows = c.in_ok-push.ensures.ok in
    record {
      table = rw grows (grown _ _ _ _ _ _ before.table row c.loop-next-test.true (omega (arith, ahead.0)) ahead.1
          (λ moment from within. ahead.2 moment (omega (arith, from, before.table.in_order, c.requires.first)) within));
      looked = λ more rest.
          subst (AreLooked look c.args.last.0 c.args.first.0) (sym (ap (λ (rows : List DepartureRow). rows ++ more) grows ∙ append_assoc c.loop-next.rows (row ∷ []) more))
          (before.looked (row ∷ more) (c.loop-next-test.true, found, rest));
    }

pub returns-clause-table : goal.returns-clause-table
returns-clause-table c = ends_after _ _ _ _ _ _ c.loop-next.invariant.table c.loop-next-test.false

pub returns-clause-looked : goal.returns-clause-looked
returns-clause-looked c =
    subst (AreLooked (row_found c.args.network.now c.args.query.now c.args.scanned.now) c.args.last.0 c.args.first.0) (append-nil c.loop-next.rows)
    (c.loop-next.invariant.looked [] (inl c.loop-next-test.false))

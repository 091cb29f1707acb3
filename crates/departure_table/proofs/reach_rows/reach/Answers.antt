-- What is said of each gate is said of each place.
use Rattle.departure_table.proofs.Common.{◌∙◌, ◌+◌, ap, sym, subst, arith, ℕ, Option, refl, MeanSpan, Leg, PlaceId, DepartureRow, row_of_choice, row_found, IsGate, ◌≡◌, ◌≢◌, ◌-◌, ◌<◌, ◌≤◌, Some}
use Rattle.departure_table.proofs.Common.{None, length, MatchOption, Query, Moment, NetworkModel, IsValid, Tree, SafeAfter, SafeFrom, IsASecondAway, IsNoneSafeFrom, IsBestFrom, IsGreatestMoment}
use Rattle.departure_table.proofs.{Common.{IsExtendedFor, SolvesArrivals}, ReachGrowth.{gate_of, passed, grown}, Looks.{none_ahead, looks_ahead}, Sources.{says, to_source, from_source}}
use Rattle.departure_table.proofs.Sources.{answer_reported}
use Rattle.departure_table.specs.{Looked.asked_at, Reach.{IsFoundAtGate, IsReachRow}, declared.reach_rows.ReachRow.ReachRow}
use Rattle.std.specs.Option.{option_map}
use Rattle.std.proofs.lemmas.List.Elements.{All-push}
use Rattle.meat_scan.specs.{ScanResult.{ScanResult, choice_of}, Solves.{SolvesEach, IsSafeAt}}
use Rattle.value_laws.specs.Means.{mean_scoring}
use Rattle.departure_table.proofs.reach_rows.reach.Goals as goal

module _ (n m : NetworkModel) (q : Query) (gate : ℕ) (place : PlaceId) (g : IsGate n m gate place.0) (valid : IsValid m) (target : q.target.0 < length m.change) (away : place.0 ≢ q.target.0) (some : 1 ≤ q.start.0) where
  for_place : IsExtendedFor n (asked_at q gate) m place.0
  for_place = record { gate = g; valid = valid; target_there = target; away = away }

  differ : gate ≢ q.target.0
  differ same = absurd (let added = g.added in omega (arith, same, added, target))

  pub second : IsASecondAway n gate
  second = (says n (asked_at q gate) m place.0 for_place).second

  reported : (o : Option DepartureRow) → MatchOption o (IsNoneSafeFrom (SafeAfter n (asked_at q gate)) q.start.0) (IsBestFrom n (SafeAfter n (asked_at q gate)) q.start.0)
      → MatchOption o (IsNoneSafeFrom (SafeFrom m place.0 q) q.start.0) (IsBestFrom m (SafeFrom m place.0 q) q.start.0)
  reported o is = answer_reported n m (SafeAfter n (asked_at q gate)) (SafeFrom m place.0 q) g.view.as_many
      (λ moment tree since safe. to_source n (asked_at q gate) m place.0 for_place moment tree since safe)
      (λ moment tree since safe. from_source n (asked_at q gate) m place.0 for_place moment tree since safe)
      q.start.0 o some is

  module _ (found : ScanResult MeanSpan) (solves : SolvesArrivals found n q) where
    solves_each : (p x : ℕ) (choice : Option (MeanSpan × Leg)) → MatchOption choice ((tree : Tree) → IsSafeAt n q p x tree → ⊥) (SolvesEach mean_scoring n q found p x)
        → MatchOption choice ((tree : Tree) → IsSafeAt n q p x tree → ⊥) (SolvesEach mean_scoring n (asked_at q gate) found p x)
    solves_each p x choice none = grind arith

    solves_there : SolvesArrivals found n (asked_at q gate)
    solves_there p x elsewhere = solves_each p x (choice_of found p x) (solves p x elsewhere)

    pub none_reported : choice_of found gate (q.start.0 - 1) ≡ None → IsNoneSafeFrom (SafeFrom m place.0 q) q.start.0
    none_reported none = reported None (none_ahead n (asked_at q gate) found solves_there differ second q.start.0 none q.start.0 (omega arith))

    pub row_reported : (choice : MeanSpan × Leg) (latest : Moment) → choice_of found gate (q.start.0 - 1) ≡ Some choice → IsGreatestMoment (SafeAfter n (asked_at q gate)) q.start.0 (Some latest)
        → IsReachRow m q q.start.0 (record { place = place; latest = latest; bounds = choice.0.0 })
    row_reported choice latest is greatest =
        let row = row_of_choice n choice in
        let ahead = looks_ahead n (asked_at q gate) found solves_there differ second (q.start.0 - 1) choice is row refl refl refl in
        record {
          latest = (says n (asked_at q gate) m place.0 for_place).greatest q.start.0 (Some latest) some greatest;
          bounds = (row, reported (Some row) (ahead.2 q.start.0 (omega (arith, some)) (omega (arith, ahead.0, some))), refl);
        }

  pub none_later : IsGreatestMoment (SafeAfter n (asked_at q gate)) q.start.0 None → IsNoneSafeFrom (SafeFrom m place.0 q) q.start.0
  none_later greatest = reported None (greatest q.start.0 (omega arith))

pub greatest-requires-clause-second : goal.greatest-requires-clause-second
greatest-requires-clause-second c =
    let n = c.args.extended.now in
    let m = c.args.network.now in
    let place : PlaceId = record { 0 = c.loop-place.place } in
    let gate = subst (λ (k : ℕ). IsGate n m (k + place.0) place.0) (sym c.places.ensures.count) (gate_of n m place.0 c.requires.gates (omega arith)) in
    second n m c.args.query.now (c.places.result + place.0) place gate c.places.ensures.valid c.requires.target c.if-place-query.false c.requires.start

pub loop-place-preserved-then-place-query : goal.loop-place-preserved-then-place-query
loop-place-preserved-then-place-query c = grind arith

pub loop-place-preserved-in_default : goal.loop-place-preserved-in_default
loop-place-preserved-in_default c =
    let n = c.args.extended.now in
    let m = c.args.network.now in
    let q = c.args.query.now in
    let place : PlaceId = record { 0 = c.loop-place.place } in
    let gate = subst (λ (k : ℕ). IsGate n m (k + place.0) place.0) (sym c.places.ensures.count) (gate_of n m place.0 c.requires.gates (omega arith)) in
    record {
      reach = passed m q q.start.0 place.0 c.loop-place.rows c.loop-place.invariant.reach
          (λ away. none_reported n m q (c.places.result + place.0) place gate c.places.ensures.valid c.requires.target away c.requires.start
          c.args.scanned.now c.requires.solves (sym c.in_default.ensures));
      found = c.loop-place.invariant.found;
    }

pub loop-place-preserved-in_default-greatest : goal.loop-place-preserved-in_default-greatest
loop-place-preserved-in_default-greatest c = grind (arith, none_later)

pub loop-place-preserved : goal.loop-place-preserved
loop-place-preserved c =
    let n = c.args.extended.now in
    let m = c.args.network.now in
    let q = c.args.query.now in
    let place : PlaceId = record { 0 = c.loop-place.place } in
    let away = c.if-place-query.false in
    let gate = subst (λ (k : ℕ). IsGate n m (k + place.0) place.0) (sym c.places.ensures.count) (gate_of n m place.0 c.requires.gates (omega arith)) in
    let choice : MeanSpan × Leg = (c.in-Some.value, c.in-Some.field-0-1) in
    let row : ReachRow = record { place = place; latest = c.in-Some-greatest.latest; bounds = c.in-Some.value.0 } in
    let look : ℕ → Option DepartureRow = λ places. row_found n (asked_at q (places + place.0)) c.args.scanned.now q.start.0 in
    rw c.in_ok-push.ensures.ok (record {
      reach = grown m q q.start.0 place.0 c.loop-place.rows c.loop-place.invariant.reach row refl away
          (row_reported n m q (c.places.result + place.0) place gate c.places.ensures.valid c.requires.target away c.requires.start
          c.args.scanned.now c.requires.solves choice row.latest (sym c.in-Some.ensures) c.in-Some-greatest.ensures);
      found = All-push (IsFoundAtGate n m q c.args.scanned.now) c.loop-place.rows row c.loop-place.invariant.found
          (row_of_choice n choice, ap look (sym c.places.ensures.count) ∙ ap (option_map (row_of_choice n)) (sym c.in-Some.ensures), refl);
    })

-- The rows of a trip.
use Rattle.journey_report.proofs.Common.{◌≡◌, ℕ, ◌<◌, ◌≤◌, List, [], ◌∷◌, ◌++◌, length, drop, Bool, true, arith, refl, sym, ap, ◌∙◌, All, ◌==◌, ◌||◌}
use Rattle.journey_report.proofs.Common.{append-nil, at_drop_all, NetworkModel, NameLists, Ridden, rides_text, arrived_text}
use Rattle.std.specs.List.{list_any}
use Rattle.std.proofs.lemmas.{Bool.Decides.nat_tests, List.Elements.{All-head, All-tail}}
use Rattle.plan_model.specs.{declared.model.{Outcome.Outcome, Moment.Moment}, Network.{connection, IsValid}, Bounds.seconds_per_day}
use Rattle.trip_replay.specs.Rides.{IsRidden, arrival_after, place_after}
use Rattle.journey_model.specs.Sites.{last_printable}

delay_at : (o : Outcome) (row : List Outcome) (d : ℕ) (b : Bool) → (o.delay == d) ≡ b → o.delay ≤ seconds_per_day → (list_any (λ x. x.delay == d) row ≡ true → d ≤ seconds_per_day)
    → (b || list_any (λ x. x.delay == d) row) ≡ true → d ≤ seconds_per_day
delay_at o row d b same few rest any = grind (arith, nat_tests)

-- a delay of a valid row is at most a day
delay_few : (row : List Outcome) (d : ℕ) → All (λ o. o.delay ≤ seconds_per_day) row → list_any (λ o. o.delay == d) row ≡ true → d ≤ seconds_per_day
delay_few [] d all any = absurd (cc)
delay_few (o ∷ row) d all any =
    delay_at o row d (o.delay == d) refl (All-head (λ (x : Outcome). x.delay ≤ seconds_per_day) o row all) (delay_few row d (All-tail (λ (x : Outcome). x.delay ≤ seconds_per_day) o row all)) any

module _ (n : NetworkModel) (valid : IsValid n) where
  -- the arrival of a ride has a text
  pub ride_arrival : (r : Ridden) → IsRidden n r → r.arrival.0 ≤ last_printable
  ride_arrival r is = grind (arith, delay_few)

  pub arrivals : (start : ℕ) (rides : List Ridden) → start ≤ last_printable → All (IsRidden n) rides → arrival_after start rides ≤ last_printable
  arrivals start [] early all = early
  arrivals start (r ∷ rides) early all = arrivals r.arrival.0 rides (ride_arrival r (All-head (IsRidden n) r rides all)) (All-tail (IsRidden n) r rides all)

  pub places : (source : ℕ) (rides : List Ridden) → source < length n.change → All (IsRidden n) rides → place_after n source rides < length n.change
  places source [] inside all = inside
  places source (r ∷ rides) inside all =
      let is = All-head (IsRidden n) r rides all in
      places (connection n r.leg.exit.0).to.0 rides (valid.connections r.leg.exit.0 is.is_leg.exit).to_in (All-tail (IsRidden n) r rides all)

-- the rides, and then the arrival
pub trace_end : (n : NetworkModel) (names : NameLists) (rides : List Ridden) (i : ℕ) (old row new target target' : List ℕ) (arrival : Moment) → length rides ≤ i
    → old ++ rides_text n names (drop i rides) ≡ rides_text n names rides → new ≡ old ++ row → row ≡ arrived_text target arrival → target ≡ target'
    → new ≡ rides_text n names rides ++ arrived_text target' arrival
trace_end n names rides i old row new target target' arrival all before is row_is same =
    let whole : old ≡ rides_text n names rides = sym (append-nil old) ∙ (sym (ap (λ (rest : List ℕ). old ++ rest)
    (at_drop_all (λ (rest : List Ridden). rides_text n names rest) rides i all)) ∙ before) in
    is ∙ (ap (λ (text : List ℕ). text ++ row) whole ∙ ap (λ (end : List ℕ). rides_text n names rides ++ end) (row_is ∙ ap (λ (name : List ℕ). arrived_text name arrival) same))

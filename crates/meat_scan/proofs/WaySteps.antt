-- One way after the other.
use Rattle.meat_scan.proofs.Common.{◌≡◌, ◌≢◌, ℕ, suc, ◌+◌, ◌<◌, ◌≤◌, true, List, [], ◌∷◌, ◌++◌, Option, Some, None, AllPairs, length, get_or, take, cond, slice_get, arith, sym, ap, ◌∙◌, refl}
use Rattle.meat_scan.proofs.Common.{set, length-take-le, get_or-set_same, get_or-set_other, find, ◌==◌, is_some, eq-eqb, ne_eqb, get_or-take, common_steps, option_or, cases_eq, nat_tests}
use Rattle.meat_scan.proofs.Common.{take_more, Leg, NetworkModel, IsValid, ways_into, way_of-listed, way_takes, ways_into-distinct, Scoring, Row, with_way, way_of_place, has_way}
use Rattle.std.proofs.lemmas.{List.Folds.find-append, Option.slice_get-get_or}
use Rattle.plan_model.specs.declared.model.Way.{Way}

-- the way from a place, in a list of them
abbrev pub way_in : List Way → ℕ → Option Way
way_in ways place = find (λ way. way.from.0 == place) ways

-- where all of them come from elsewhere there is none
way_in-none : (ways : List Way) (place : ℕ) → ((j : ℕ) (d : Way) → j < length ways → (get_or ways j d).from.0 ≢ place) → way_in ways place ≡ None
way_in-none [] place away = refl
way_in-none (way ∷ ways) place away = rw (ne_eqb way.from.0 place (away 0 way (omega arith)))
    (way_in-none ways place (λ j d within. away (suc j) d (omega arith)))

option_or-None : (o : Option Way) → option_or o None ≡ o
option_or-None o = grind arith

-- one, where there is a way
abbrev pub way_number : Option Way → ℕ
way_number way = cond (is_some way) 1 0

module _ (ways : List Way) (distinct : AllPairs (λ a b. a.from.0 ≢ b.from.0) ways) (k : ℕ) (within : k < length ways) (way : Way) (is : slice_get ways k ≡ Some way) where
  read : (d : Way) → get_or ways k d ≡ way
  read d = let both = sym is ∙ slice_get-get_or ways k d within in cc

  -- no way before it comes from its place
  pub none_before : way_in (take k ways) way.from.0 ≡ None
  none_before = way_in-none (take k ways) way.from.0 (λ j d inside.
      let below : j < k = omega (arith, length-take-le k ways (omega arith)) in
      let apart = distinct j k d below within in
      let taken = get_or-take k ways j d below in
      λ same. apart (sym (ap (λ (w : Way). w.from.0) taken) ∙ same ∙ sym (ap (λ (w : Way). w.from.0) (read d))))

  next : (place : ℕ) → way_in (take (k + 1) ways) place ≡ option_or (way_in (take k ways) place) (way_in (way ∷ []) place)
  next place =
      ap (λ list. way_in list place) (take_more ways k way within ∙ ap (λ (w : Way). take k ways ++ w ∷ []) (read way))
      ∙ find-append (λ (w : Way). w.from.0 == place) (take k ways) (way ∷ [])

  -- the rows of a place after one way more
  pub rows_next : {V : Type 0} (scoring : Scoring V) (target dep : ℕ) (value : V) (leg : Leg) (place : ℕ) (old now new : List (Row V))
      → now ≡ with_way scoring target dep value leg (way_in (take k ways) place) place old
      → new ≡ with_way scoring target dep value leg (way_of_place way place) place now
      → new ≡ with_way scoring target dep value leg (way_in (take (k + 1) ways) place) place old
  rows_next scoring target dep value leg place old now new is_now is_new = grind (arith, cases_eq, way_in, none_before, next, eq-eqb, ne_eqb, option_or-None, common_steps, nat_tests)

  -- the room of a place after one way more
  pub spare_next : (place old now new : ℕ) → old ≤ now + way_number (way_in (take k ways) place) → now ≤ new + cond (way.from.0 == place) 1 0
      → old ≤ new + way_number (way_in (take (k + 1) ways) place)
  spare_next place old now new before_now now_new = grind (arith, cases_eq, way_in, none_before, next, eq-eqb, ne_eqb, option_or-None, way_number)

  -- a count for each place after one way more
  pub count_next : (room : List ℕ) (place : ℕ) (old : ℕ) → way.from.0 < length room
      → get_or room place 0 ≡ old + way_number (way_in (take k ways) place)
      → get_or (set room way.from.0 (get_or room way.from.0 0 + 1)) place 0 ≡ old + way_number (way_in (take (k + 1) ways) place)
  count_next room place old inside is_now = grind (arith, cases_eq, way_in, none_before, next, eq-eqb, ne_eqb, option_or-None, way_number, set, get_or-set_same, get_or-set_other)

-- a way that is listed leads from its place
pub has_way-listed : (n : NetworkModel) → IsValid n → (r k : ℕ) (way : Way) → r < length n.change → slice_get (ways_into n r) k ≡ Some way → has_way n way.from.0 r ≡ true
has_way-listed n valid r k way inside is = ap is_some (way_of-listed n valid r inside k way is)

-- and that place is one of the network's
pub from_in : (n : NetworkModel) → IsValid n → (r k : ℕ) (way : Way) → r < length n.change → slice_get (ways_into n r) k ≡ Some way → way.from.0 < length n.change
from_in n valid r k way inside is = (way_takes n valid way.from.0 r way.seconds inside (way_of-listed n valid r inside k way is)).0

-- where one row for each way has room, there is room for the row of a way after those before it
pub room_remains : (n : NetworkModel) → IsValid n → (r k : ℕ) → r < length n.change → k < length (ways_into n r) → (way : Way)
    → slice_get (ways_into n r) k ≡ Some way → (old now : ℕ) → cond (has_way n way.from.0 r) 1 0 ≤ old
    → old ≤ now + way_number (way_in (take k (ways_into n r)) way.from.0) → 1 ≤ now
room_remains n valid r k inside within way is old now room so_far = grind (arith, way_number, way_in, none_before, ways_into-distinct, has_way-listed)

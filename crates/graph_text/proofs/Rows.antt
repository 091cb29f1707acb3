-- A row is read as what it says, and as nothing else.
use Rattle.graph_text.proofs.Common.{◌≡◌, ℕ, ◌≤◌, Bool, true, List, Option, Some, None, Ok, arith, sym, subst, refl, ◌∙◌, ap, ◌==◌, nat_le, if◌then◌else◌, codes, option_map, option_and_then}
use Rattle.graph_text.proofs.Common.{eqb-true, eq-eqb, leb-true, le-leb, false≢true, and_parts, moment_at, nanos_at, if_cases, some_cases, require-ok, Leg, NetworkModel, NameLists, IsValid}
use Rattle.graph_text.proofs.Common.{change_of, connection, run_of, step_of, from_of, to_of, dep_of, arr_of, limit_of, GraphRow, IsLegOf, IsFitRow, Head, Version, LegRow, LegNames, PlaceRow}
use Rattle.graph_text.proofs.Common.{HeadRow, TableStart, leg_names, names_in, leg_numbers, leg_row_in, leg_found, leg_between, agrees, equals_limit, can_start, is_by_limit, start_in, row_in}
use Rattle.graph_text.proofs.Common.{place_numbers, place_row_in, table_in, are_in_order, head_numbers, head_row_in, head_of, head_in, width_of, IsHeadOf, is_head, version_in, IsLegRow}
use Rattle.graph_text.proofs.Common.{IsPlaceRow, IsHeadRow, is_query, connection_of, number_of, rises, field, whole_at, is_kind, if-value}
use Rattle.printed_rows.proofs.Found.{connection_back, connection_holds}

-- ---- the row of a leg

pub numbers_reported : (a b c d e : Option ℕ) (x : LegRow) → leg_numbers a b c d e ≡ Some x
    → (a ≡ Some x.moment.0) × (b ≡ Some x.enter) × (c ≡ Some x.dep.0) × (d ≡ Some x.exit) × (e ≡ Some x.arr.0)
numbers_reported a b c d e x is = grind arith

pub names_reported : (a b c : Option ℕ) (known : LegNames) → option_and_then (λ run. option_and_then (λ exit. option_map (λ entry. leg_names run exit entry) c) b) a ≡ Some known
    → (a ≡ Some known.run.0) × (b ≡ Some known.exit.0) × (c ≡ Some known.entry.0)
names_reported a b c known is = grind arith

found_reported : (test : ℕ → ℕ → Bool) (a b : Option ℕ) (leg : Leg) → option_and_then (λ i. option_and_then (λ j. if test i j then Some (leg_between i j) else None) b) a ≡ Some leg
    → (a ≡ Some leg.enter.0) × (b ≡ Some leg.exit.0) × (test leg.enter.0 leg.exit.0 ≡ true)
found_reported test a b leg is = grind (arith, some_cases)

pub place_numbers_reported : (a b : Option ℕ) (x : PlaceRow) → place_numbers a b ≡ Some x → (a ≡ Some x.change) × (b ≡ Some x.count) × (1 ≤ x.count)
place_numbers_reported a b x is = grind (arith, some_cases, leb-true)

pub head_numbers_reported : (a b c d : Option ℕ) (x : HeadRow) → head_numbers a b c d ≡ Some x
    → (a ≡ Some x.start.0) × (b ≡ Some x.deadline.0) × (c ≡ Some x.lo) × (d ≡ Some x.hi) × (are_in_order x.start.0 x.deadline.0 x.lo x.hi ≡ true)
head_numbers_reported a b c d x is = grind (arith, some_cases)

module _ (n : NetworkModel) (names : NameLists) (version : Version) (kind : List ℕ) (place : ℕ) (r : List (List ℕ)) where
  leg_reported : (x : LegRow) (known : LegNames) (leg : Leg) → leg_row_in version kind r ≡ Some x → names_in version names place r ≡ Some known → leg_found n x known ≡ Some leg
      → IsLegRow n names version kind place x.moment.0 leg r × IsLegOf n leg
  leg_reported x known leg row_is names_are found =
      let row = if_cases (is_kind kind (width_of version) r)
      (leg_numbers (moment_at (field r 1)) (whole_at (field r 3)) (moment_at (field r 4)) (whole_at (field r 5)) (moment_at (field r 7))) x row_is in
      let fields = numbers_reported _ _ _ _ _ x row.1 in
      let texts = names_reported _ _ _ known names_are in
      let ends = found_reported (λ i j. agrees n i j x known) (connection_of n known.run.0 x.enter) (connection_of n known.run.0 x.exit) leg found in
      let enter = connection_holds n known.run.0 x.enter leg.enter.0 ends.0 in
      let exit = connection_holds n known.run.0 x.exit leg.exit.0 ends.1 in
      let onward = and_parts (nat_le x.enter x.exit) _ ends.2 in
      let board = and_parts (connection n leg.enter.0).can_board _ onward.1 in
      let leave = and_parts (connection n leg.exit.0).can_exit _ board.1 in
      let departs = and_parts (dep_of n leg.enter.0 == x.dep.0) _ leave.1 in
      let from = and_parts (from_of n leg.enter.0 == known.entry.0) _ departs.1 in
      let to = and_parts (to_of n leg.exit.0 == known.exit.0) (arr_of n leg.exit.0 == x.arr.0) from.1 in (
        record {
          is_of_kind = row.0;
          by = fields.0;
          run = texts.0 ∙ ap Some (sym enter.1);
          enter = fields.1 ∙ ap Some (sym enter.2);
          departure = fields.2 ∙ ap Some (sym (eqb-true _ _ departs.0));
          exit = fields.3 ∙ ap Some (sym exit.2);
          to = texts.1 ∙ ap Some (sym (eqb-true _ _ to.0));
          arrival = fields.4 ∙ ap Some (sym (eqb-true _ _ to.1));
          from = texts.2 ∙ ap Some (sym (eqb-true _ _ from.0));
        },
        record {
          enter = enter.0;
          exit = exit.0;
          one_run = enter.1 ∙ sym exit.1;
          onward = let le = leb-true x.enter x.exit onward.0 in omega (arith, le, enter.2, exit.2);
          board = board.0;
          leave = leave.0;
        },
      )

  module _ (valid : IsValid n) (moment : ℕ) (leg : Leg) (is_leg : IsLegOf n leg) (reported : IsLegRow n names version kind place moment leg r) where
    abbrev numbers : LegRow
    numbers = record {
      moment = record { 0 = moment };
      enter = step_of n leg.enter.0;
      dep = record { 0 = dep_of n leg.enter.0 };
      exit = step_of n leg.exit.0;
      arr = record { 0 = arr_of n leg.exit.0 };
    }

    abbrev known : LegNames
    known = leg_names (run_of n leg.enter.0) (to_of n leg.exit.0) (from_of n leg.enter.0)

    numbers_read : leg_row_in version kind r ≡ Some numbers
    numbers_read = rw (reported.is_of_kind, reported.by, reported.enter, reported.departure, reported.exit, reported.arrival) refl

    names_read : names_in version names place r ≡ Some known
    names_read = rw (reported.run, reported.to, reported.from) refl

    all_agree : agrees n leg.enter.0 leg.exit.0 numbers known ≡ true
    all_agree = grind (arith, le-leb, eq-eqb)

    found_read : leg_found n numbers known ≡ Some leg
    found_read = grind (arith, connection_back, all_agree)

-- ---- the rows of a graph

module _ (n : NetworkModel) (names : NameLists) (version : Version) (line : ℕ) (r : List (List ℕ)) where
  -- the start row
  pub start_reported : (source start : ℕ) (leg : Leg) → start_in n names version line source start r ≡ Ok leg
      → IsLegRow n names version (codes "start") source (dep_of n leg.enter.0) leg r × IsLegOf n leg × (from_of n leg.enter.0 ≡ source) × (start ≤ dep_of n leg.enter.0)
  start_reported source start leg is =
      let x = require-ok (leg_row_in version (codes "start") r) _ _ leg is in
      let known = require-ok (names_in version names source r) _ _ leg x.2 in
      let found = require-ok (leg_found n x.0 known.0) _ _ leg known.2 in
      let own = if-value (can_start n source start x.0.moment.0 found.0) _ _ leg found.2 in
      let reported = leg_reported n names version (codes "start") source r x.0 known.0 found.0 x.1 known.1 found.1 in
      let leaves = and_parts (from_of n found.0.enter.0 == source) _ own.0 in
      let departs = and_parts (x.0.moment.0 == dep_of n found.0.enter.0) _ leaves.1 in
      let same : found.0 ≡ leg = (cc) in
      subst (λ (l : Leg). IsLegRow n names version (codes "start") source (dep_of n l.enter.0) l r × IsLegOf n l × (from_of n l.enter.0 ≡ source) × (start ≤ dep_of n l.enter.0)) same (
        subst (λ (m : ℕ). IsLegRow n names version (codes "start") source m found.0 r) (eqb-true _ _ departs.0) reported.0,
        reported.1,
        eqb-true _ _ leaves.0,
        leb-true _ _ departs.1,
      )

  pub start_read : IsValid n → (source start : ℕ) (leg : Leg) → IsLegRow n names version (codes "start") source (dep_of n leg.enter.0) leg r → IsLegOf n leg
      → from_of n leg.enter.0 ≡ source → start ≤ dep_of n leg.enter.0 → start_in n names version line source start r ≡ Ok leg
  start_read valid source start leg reported is_leg leaves in_time = grind (arith, numbers_read, codes, names_read, found_read, eq-eqb, le-leb)

  -- a row of a table
  pub row_reported : (place : ℕ) (last : Option ℕ) (row : GraphRow) → row_in n names version line place last r ≡ Ok row
      → (rises last row.by.0 ≡ true) × IsLegRow n names version (codes "leg") place row.by.0 row.leg r × IsFitRow n place row
  row_reported place last row is =
      let x = require-ok (leg_row_in version (codes "leg") r) _ _ row is in
      let known = require-ok (names_in version names place r) _ _ row x.2 in
      let up = if-value (rises last x.0.moment.0) _ _ row known.2 in
      let found = require-ok (leg_found n x.0 known.0) _ _ row up.1 in
      let by = if-value (is_by_limit n place x.0.moment.0 found.0) _ _ row found.2 in
      let reported = leg_reported n names version (codes "leg") place r x.0 known.0 found.0 x.1 known.1 found.1 in
      let same : record { by = x.0.moment; leg = found.0 } ≡ row = (cc) in
      subst (λ (w : GraphRow). (rises last w.by.0 ≡ true) × IsLegRow n names version (codes "leg") place w.by.0 w.leg r × IsFitRow n place w) same
      (up.0, reported.0, record { is_leg = reported.1; by = limit_is (limit_of n place found.0) by.0 })
    where
      limit_is : (found : Option ℕ) {moment : ℕ} → equals_limit found moment ≡ true → found ≡ Some moment
      limit_is None is = absurd (false≢true is)
      limit_is (Some limit) is = ap Some (eqb-true _ _ is)

  pub row_read : IsValid n → (place : ℕ) (last : Option ℕ) (row : GraphRow) → rises last row.by.0 ≡ true → IsLegRow n names version (codes "leg") place row.by.0 row.leg r → IsFitRow n place row
      → row_in n names version line place last r ≡ Ok row
  row_read valid place last row later reported fit = grind (arith, numbers_read, codes, names_read, found_read, eq-eqb)

  -- a place row
  pub table_reported : (last : Option ℕ) (t : TableStart) → table_in n names version line last r ≡ Ok t
      → (rises last t.place.0 ≡ true) × IsPlaceRow n names version t.place.0 t.count r × (1 ≤ t.count)
  table_reported last t is =
      let x = require-ok (place_row_in version r) _ _ t is in
      let place = require-ok (number_of names.places (field r 1)) _ _ t x.2 in
      let up = if-value (rises last place.0) _ _ t place.2 in
      let change = if-value (x.0.change == change_of n place.0) _ _ t up.1 in
      grind (arith, if_cases, place_numbers_reported, eqb-true)

  pub table_read : (last : Option ℕ) (t : TableStart) → rises last t.place.0 ≡ true → IsPlaceRow n names version t.place.0 t.count r → 1 ≤ t.count → table_in n names version line last r ≡ Ok t
  table_read last t later reported some = grind (arith, le-leb, eq-eqb)

-- the first row
module _ (names : NameLists) (version : Version) (r : List (List ℕ)) (number : version_in r ≡ Some version) where
  pub head_reported : (source target start : ℕ) (head : Head) → head_in names version source target start r ≡ Ok head → IsHeadRow names version head r × IsHeadOf source target start head
  head_reported source target start head is =
      let x = require-ok (head_row_in version r) _ _ head is in
      let from = require-ok (number_of names.places (field r 2)) _ _ head x.2 in
      let to = require-ok (number_of names.places (field r 3)) _ _ head from.2 in
      let asked = if-value (is_query from.0 to.0 x.0.start.0 source target start) _ _ head to.2 in
      let same : head_of source target start x.0 ≡ head = (cc) in
      let row = if_cases (is_head version r) (head_numbers (moment_at (field r 4)) (moment_at (field r 5)) (nanos_at (field r 6)) (nanos_at (field r 7))) x.0 x.1 in
      let numbers = head_numbers_reported _ _ _ _ x.0 row.1 in
      let order = and_parts (nat_le x.0.start.0 x.0.deadline.0) _ numbers.4 in
      let of_source = and_parts (from.0 == source) _ asked.0 in
      let of_target = and_parts (to.0 == target) (x.0.start.0 == start) of_source.1 in
      let begins = eqb-true x.0.start.0 start of_target.1 in
      subst (λ (h : Head). IsHeadRow names version h r × IsHeadOf source target start h) same (
        record {
          is_of_kind = row.0;
          number = number;
          source = from.1 ∙ ap Some (eqb-true _ _ of_source.0);
          target = to.1 ∙ ap Some (eqb-true _ _ of_target.0);
          start = numbers.0 ∙ ap Some begins;
          deadline = numbers.1;
          lo = numbers.2;
          hi = numbers.3;
        },
        record {
          source = refl;
          target = refl;
          start = refl;
          in_time = let le = leb-true x.0.start.0 x.0.deadline.0 order.0 in omega (arith, le, begins);
          bounds = leb-true _ _ order.1;
        },
      )

  pub head_read : (head : Head) → IsHeadRow names version head r → head.query.start.0 ≤ head.query.deadline.0 → head.bounds.lo ≤ head.bounds.hi
      → head_in names version head.query.source.0 head.query.target.0 head.query.start.0 r ≡ Ok head
  head_read head reported in_time bounds = grind (arith, le-leb, eq-eqb)

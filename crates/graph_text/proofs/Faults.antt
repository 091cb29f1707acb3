-- The first fault of a text is that of its first row that breaks a rule, or of the first row that is missing.
use Rattle.graph_text.proofs.Common.{◌≡◌, ◌≢◌, ℕ, suc, ◌+◌, ◌-◌, Bool, true, false, List, [], ◌∷◌, Option, Some, None, IsSome, is_some, Result, Ok, Err, arith, sym, subst, refl, ◌∙◌, ap, ◌==◌}
use Rattle.graph_text.proofs.Common.{if◌then◌else◌, codes, inl, inr, ◌⊎◌, option_map, eqb-true, eq-eqb, ne_eqb, leb-true, le-leb, nat_le, false≢true, and_parts, cases_eq, moment_at, nanos_at}
use Rattle.graph_text.proofs.Common.{if_cases, and_then, require, require-ok, Leg, PlaceId, NetworkModel, NameLists, IsValid, GraphRow, PlanGraph, field, is_kind, whole_at, number_of, rises}
use Rattle.graph_text.proofs.Common.{is_query, Head, TextFault, LegRow, LegNames, PlaceRow, HeadRow, TableStart, Reading, Version, width_of, is_place, is_head, version_in, IsLegRow, IsPlaceRow}
use Rattle.graph_text.proofs.Common.{leg_numbers, leg_row_in, names_in, leg_found, is_by_limit, can_start, row_in, start_in, place_numbers, place_row_in, table_in, head_numbers, head_row_in}
use Rattle.graph_text.proofs.{Common.{head_in, step, after_place_row, after_leg_row, place_tables_from, no_tables, started_in, graph_after_first, graph_of_records}, Rows.numbers_reported}
use Rattle.graph_text.proofs.Rows.{names_reported, place_numbers_reported, head_numbers_reported, start_reported, start_read, row_reported, row_read, table_reported, table_read, head_reported}
use Rattle.graph_text.proofs.{Rows.head_read, Tables.{leg_step, place_row_is, leg_row_is, after_last, after_row}}
use Rattle.graph_text.specs.FirstFaults.{Breaks, HasLegForm, HasLegNames, HasLaterMoment, IsRowOf, BreaksAtLeg, IsStartOf, BreaksAtStart, HasPlaceForm, HasLaterPlace, BreaksAtPlace, HasHeadForm}
use Rattle.graph_text.specs.FirstFaults.{HasHeadNames, IsOfQuestion, BreaksAtHead, Coming, PlaceNext, LegNext, after_leg, HaveFirstFault, HaveFaultAfterHead, HaveFault}
use Rattle.graph_text.specs.declared.reader.TextFault.TheVariants as f

-- ---- chains that end with a fault

require_err : {A B E : Type 0} (o : Option A) (e : E) (next : A → Result B E) (fault : E) → require o e next ≡ Err fault
    → ((o ≡ None) × (e ≡ fault)) ⊎ ((a : A) × (o ≡ Some a) × (next a ≡ Err fault))
require_err o e next fault is = grind arith

if_err : {A E : Type 0} (test : Bool) (r : Result A E) (e fault : E) → (if test then r else Err e) ≡ Err fault
    → ((test ≡ false) × (e ≡ fault)) ⊎ ((test ≡ true) × (r ≡ Err fault))
if_err test r e fault is = grind arith

else_err : {A E : Type 0} (test : Bool) (r : Result A E) (e fault : E) → (if test then Err e else r) ≡ Err fault
    → ((test ≡ true) × (e ≡ fault)) ⊎ ((test ≡ false) × (r ≡ Err fault))
else_err test r e fault is = grind arith

then_err : {A B E : Type 0} (r : Result A E) (next : A → Result B E) (fault : E) → and_then r next ≡ Err fault
    → (r ≡ Err fault) ⊎ ((a : A) × (r ≡ Ok a) × (next a ≡ Err fault))
then_err r next fault is = grind arith

-- the fault of a first part is that of the whole
first_err : {A B C E : Type 0} (o : Option A) (e : E) (h : A → Result B E) (next : A → B → Result C E) (fault : E) → require o e h ≡ Err fault
    → require o e (λ a. and_then (h a) (next a)) ≡ Err fault
first_err o e h next fault is = grind arith

none_some : {A : Type 0} (o : Option A) (a : A) → o ≡ None → o ≡ Some a → ⊥
none_some o a none some = cc

ok_err : {A E : Type 0} (r : Result A E) (a : A) (fault : E) → r ≡ Ok a → r ≡ Err fault → ⊥
ok_err r a fault ok err = cc

some_is : {A : Type 0} (o : Option A) (a : A) → o ≡ Some a → IsSome o
some_is o a is = ap is_some is

some_value : {A : Type 0} (o : Option A) → IsSome o → (a : A) × (o ≡ Some a)
some_value o some = grind arith

some_same : {A : Type 0} (o : Option A) (a b : A) → o ≡ Some a → o ≡ Some b → a ≡ b
some_same o a b x y = (cc)

ok_same : {A E : Type 0} {a b : A} → ◌≡◌ {A = Result A E} (Ok a) (Ok b) → a ≡ b
ok_same is = (cc)

-- where a part is missing or fails its test, that is the fault
tail_err : {A B E : Type 0} (o : Option A) (test : A → Bool) (value : A → B) (e fault : E) → require o e (λ a. if test a then Ok (value a) else Err e) ≡ Err fault → e ≡ fault
tail_err o test value e fault is = grind (arith, require_err, if_err)

-- ---- one rule is broken first

module _ (line : ℕ) (form known later agreed asked : Type 0) where
  breaks_one : (a b : TextFault) → Breaks line form known later agreed asked a → Breaks line form known later agreed asked b → a ≡ b
  breaks_one a b x y = grind arith

  keeps_all : form → known → later → agreed → asked → (a : TextFault) → Breaks line form known later agreed asked a → ⊥
  keeps_all one two three four five a x = grind arith

  -- where a value keeps all rules and a fault breaks the one that it names, the fault that is named is the result's
  broken_back : {A : Type 0} (r : Result A TextFault) → ((a : A) → r ≡ Ok a → form × known × later × agreed × asked)
      → ((g : TextFault) → r ≡ Err g → Breaks line form known later agreed asked g) → (fault : TextFault) → Breaks line form known later agreed asked fault → r ≡ Err fault
  broken_back (Ok a) kept broken fault here = let k = kept a refl in absurd (keeps_all k.0 k.1 k.2 k.3 k.4 fault here)
  broken_back (Err g) kept broken fault here = ap (λ e. Err e) (breaks_one g fault (broken g refl) here)

-- ---- a row of a leg

numbers_read : (a b c d e : Option ℕ) (by enter dep exit arr : ℕ) → a ≡ Some by → b ≡ Some enter → c ≡ Some dep → d ≡ Some exit → e ≡ Some arr
    → leg_numbers a b c d e ≡ Some (record { moment = record { 0 = by }; enter = enter; dep = record { 0 = dep }; exit = exit; arr = record { 0 = arr } })
numbers_read a b c d e by enter dep exit arr one two three four five = rw (one, two, three, four, five) refl

module _ (n : NetworkModel) (names : NameLists) (version : Version) (line : ℕ) (r : List (List ℕ)) where
  form_reported : (kind : List ℕ) (x : LegRow) → leg_row_in version kind r ≡ Some x → HasLegForm version kind x.moment.0 r
  form_reported kind x is =
      let row = if_cases (is_kind kind (width_of version) r)
      (leg_numbers (moment_at (field r 1)) (whole_at (field r 3)) (moment_at (field r 4)) (whole_at (field r 5)) (moment_at (field r 7))) x is in
      let fields = numbers_reported _ _ _ _ _ x row.1 in
      grind (arith, some_is)

  form_read : (kind : List ℕ) (moment : ℕ) → HasLegForm version kind moment r → (x : LegRow) × (leg_row_in version kind r ≡ Some x)
  form_read kind moment form =
      let enter = some_value (whole_at (field r 3)) form.enter in
      let dep = some_value (moment_at (field r 4)) form.departure in
      let exit = some_value (whole_at (field r 5)) form.exit in
      let arr = some_value (moment_at (field r 7)) form.arrival in (
        record { moment = record { 0 = moment }; enter = enter.0; dep = record { 0 = dep.0 }; exit = exit.0; arr = record { 0 = arr.0 } },
        rw form.is_of_kind (numbers_read _ _ _ _ _ moment enter.0 dep.0 exit.0 arr.0 form.by enter.1 dep.1 exit.1 arr.1),
      )

  names_known : (place : ℕ) (known : LegNames) → names_in version names place r ≡ Some known → HasLegNames names version place r
  names_known place known is = grind (arith, names_reported, some_is)

  names_read : (place : ℕ) → HasLegNames names version place r → IsSome (names_in version names place r)
  names_read place known = grind (arith, some_value)

  no_names : (place : ℕ) → names_in version names place r ≡ None → ¬ HasLegNames names version place r
  no_names place none known = let k = some_value (names_in version names place r) (names_read place known) in none_some _ k.0 none k.1

  no_form : (kind : List ℕ) (moment : ℕ) → leg_row_in version kind r ≡ None → ¬ HasLegForm version kind moment r
  no_form kind moment none form = let x = form_read kind moment form in none_some _ x.0 none x.1

  leg_form : (kind : List ℕ) (place moment : ℕ) (leg : Leg) → IsLegRow n names version kind place moment leg r → HasLegForm version kind moment r × HasLegNames names version place r
  leg_form kind place moment leg reported = grind (arith, some_is)

  module _ (valid : IsValid n) (place : ℕ) (last : Option ℕ) where
    row_fails : (fault : TextFault) → row_in n names version line place last r ≡ Err fault → BreaksAtLeg n names version line place last r fault
    row_fails fault is =
        let Here = BreaksAtLeg n names version line place last r in
        elim (require_err (leg_row_in version (codes "leg") r) (f.Row line) _ fault is) [
          | inl none ↦ subst Here none.1 (refl, λ form. no_form (codes "leg") form.0 none.0 form.1)
          | inr x ↦
              let form = form_reported (codes "leg") x.0 x.1 in
              elim (require_err (names_in version names place r) (f.UnknownName line) _ fault x.2) [
                | inl none ↦ subst Here none.1 (refl, (x.0.moment.0, form), no_names place none.0)
                | inr known ↦
                    let named = names_known place known.0 known.1 in
                    elim (if_err (rises last x.0.moment.0) _ (f.NotRising line) fault known.2) [
                      | inl falls ↦ subst Here falls.1 (refl, (x.0.moment.0, form), named, λ later. not_later x.0.moment.0 form.by falls.0 later)
                      | inr up ↦ subst Here (tail_err (leg_found n x.0 known.0) (λ leg. is_by_limit n place x.0.moment.0 leg) (λ leg. record { by = x.0.moment; leg = leg }) (f.NoLeg line) fault up.1)
                          (refl, (x.0.moment.0, form), named, (x.0.moment.0, form.by, up.0), λ row. no_row fault is x.0.moment.0 form.by up.0 row.0 row.1)
                    ]
              ]
        ]
      where
        not_later : (moment : ℕ) → moment_at (field r 1) ≡ Some moment → rises last moment ≡ false → ¬ HasLaterMoment last r
        not_later moment by falls later =
            grind (arith, some_same)

        no_row : (fault : TextFault) → row_in n names version line place last r ≡ Err fault → (moment : ℕ) → moment_at (field r 1) ≡ Some moment → rises last moment ≡ true
            → (row : GraphRow) → ¬ IsRowOf n names version place row r
        no_row fault is moment by up row reported =
            let same = some_same _ moment row.by.0 by reported.fields.by in
            ok_err _ row fault (row_read n names version line r valid place last row (sym (ap (rises last) same) ∙ up) reported.fields reported.fit) is

    row_keeps : (row : GraphRow) → row_in n names version line place last r ≡ Ok row
        → ((moment : ℕ) × HasLegForm version (codes "leg") moment r) × HasLegNames names version place r × HasLaterMoment last r
        × ((row : GraphRow) × IsRowOf n names version place row r) × Unit {0}
    row_keeps row is =
        let reported = row_reported n names version line r place last row is in
        let parts = leg_form (codes "leg") place row.by.0 row.leg reported.1 in
        ((row.by.0, parts.0), parts.1, (row.by.0, reported.1.by, reported.0), (row, record { fields = reported.1; fit = reported.2 }), tt)

    row_back : (fault : TextFault) → BreaksAtLeg n names version line place last r fault → row_in n names version line place last r ≡ Err fault
    row_back = broken_back line _ _ _ _ _ (row_in n names version line place last r) row_keeps row_fails

  -- ---- the start row

  module _ (valid : IsValid n) (source target start : ℕ) (differ : source ≢ target) where
    start_fails : (fault : TextFault) → start_in n names version 2 source start r ≡ Err fault → BreaksAtStart n names version source target start r fault
    start_fails fault is =
        let Here = BreaksAtStart n names version source target start r in
        elim (require_err (leg_row_in version (codes "start") r) (f.Row 2) _ fault is) [
          | inl none ↦ subst Here none.1 (refl, λ form. no_form (codes "start") form.1.0 none.0 form.1.1)
          | inr x ↦
              let form = form_reported (codes "start") x.0 x.1 in
              elim (require_err (names_in version names source r) (f.UnknownName 2) _ fault x.2) [
                | inl none ↦ subst Here none.1 (refl, (differ, (x.0.moment.0, form)), no_names source none.0)
                | inr known ↦
                    let named = names_known source known.0 known.1 in
                    subst Here (tail_err (leg_found n x.0 known.0) (λ leg. can_start n source start x.0.moment.0 leg) (λ leg. leg) (f.NoLeg 2) fault known.2) (
                      refl,
                      (differ, (x.0.moment.0, form)),
                      named,
                      tt,
                      λ leg. ok_err _ leg.0 fault
                          (start_read n names version 2 r valid source start leg.0 leg.1.fields leg.1.is_leg leg.1.leaves leg.1.in_time) is,
                    )
              ]
        ]

    start_of : (leg : Leg) → start_in n names version 2 source start r ≡ Ok leg → IsStartOf n names version source start leg r
    start_of leg is = let reported = start_reported n names version 2 r source start leg is in record { fields = reported.0; is_leg = reported.1; leaves = reported.2; in_time = reported.3 }

    start_keeps : (leg : Leg) → start_in n names version 2 source start r ≡ Ok leg
        → ((source ≢ target) × ((moment : ℕ) × HasLegForm version (codes "start") moment r)) × HasLegNames names version source r × Unit {0}
        × ((leg : Leg) × IsStartOf n names version source start leg r) × Unit {0}
    start_keeps leg is =
        let reported = start_of leg is in
        grind (arith, leg_form)

    start_back : (fault : TextFault) → BreaksAtStart n names version source target start r fault → start_in n names version 2 source start r ≡ Err fault
    start_back = broken_back 2 _ _ _ _ _ (start_in n names version 2 source start r) start_keeps start_fails

  -- ---- the row of a place

  place_form_reported : (x : PlaceRow) → place_row_in version r ≡ Some x → HasPlaceForm version r
  place_form_reported x is =
      let row = if_cases (is_place version r) (place_numbers (whole_at (field r 2)) (whole_at (field r 3))) x is in
      let numbers = place_numbers_reported _ _ x row.1 in
      let some = numbers.2 in
      let same : x.count ≡ suc (x.count - 1) = omega (arith, some) in
      record { is_of_kind = row.0; change = some_is _ _ numbers.0; rows = (x.count - 1, numbers.1 ∙ ap (λ k. Some k) same) }

  place_form_read : HasPlaceForm version r → IsSome (place_row_in version r)
  place_form_read form = grind (arith, some_value, le-leb)

  module _ (last : Option ℕ) where
    table_fails : (fault : TextFault) → table_in n names version line last r ≡ Err fault → BreaksAtPlace n names version line last r fault
    table_fails fault is =
        let Here = BreaksAtPlace n names version line last r in
        elim (require_err (place_row_in version r) (f.Row line) _ fault is) [
          | inl none ↦ subst Here none.1 (refl, λ form. let x = some_value (place_row_in version r) (place_form_read form) in none_some _ x.0 none.0 x.1)
          | inr x ↦ grind (arith, place_form_reported, require_err, some_value, none_some, some_is, if_err)
        ]
      where
        not_later : (place : ℕ) → number_of names.places (field r 1) ≡ Some place → rises last place ≡ false → ¬ HasLaterPlace names last r
        not_later place by falls later =
            grind (arith, some_same)

        no_table : (fault : TextFault) → table_in n names version line last r ≡ Err fault → (place : ℕ) → number_of names.places (field r 1) ≡ Some place → rises last place ≡ true
            → HasPlaceForm version r → (own many : ℕ) → ¬ IsPlaceRow n names version own many r
        no_table fault is place name up form own many reported =
            grind (arith, some_same, ok_err, table_read)

    table_keeps : (t : TableStart) → table_in n names version line last r ≡ Ok t
        → HasPlaceForm version r × IsSome (number_of names.places (field r 1)) × HasLaterPlace names last r
        × ((place many : ℕ) × IsPlaceRow n names version place many r) × Unit {0}
    table_keeps t is =
        let reported = table_reported n names version line r last t is in
        let some = reported.2 in
        let same : t.count ≡ suc (t.count - 1) = omega (arith, some) in (
          record { is_of_kind = reported.1.is_of_kind; change = some_is _ _ reported.1.change; rows = (t.count - 1, reported.1.rows ∙ ap (λ k. Some k) same) },
          some_is _ _ reported.1.name,
          (t.place.0, reported.1.name, reported.0),
          (t.place.0, t.count, reported.1),
          tt,
        )

    table_back : (fault : TextFault) → BreaksAtPlace n names version line last r fault → table_in n names version line last r ≡ Err fault
    table_back = broken_back line _ _ _ _ _ (table_in n names version line last r) table_keeps table_fails

-- ---- the first row

module _ (names : NameLists) (r : List (List ℕ)) (source target start : ℕ) where
  abbrev first_in : Result Head TextFault
  first_in = require (version_in r) (f.Row 1) (λ version. head_in names version source target start r)

  head_form_reported : (version : Version) → version_in r ≡ Some version → (x : HeadRow) → head_row_in version r ≡ Some x → HasHeadForm version r × (moment_at (field r 4) ≡ Some x.start.0)
  head_form_reported version number x is =
      let row = if_cases (is_head version r) (head_numbers (moment_at (field r 4)) (moment_at (field r 5)) (nanos_at (field r 6)) (nanos_at (field r 7))) x is in
      let numbers = head_numbers_reported _ _ _ _ x row.1 in
      let order = and_parts (nat_le x.start.0 x.deadline.0) _ numbers.4 in (
        record {
          is_of_kind = row.0;
          number = number;
          moments = (x.start.0, x.deadline.0, numbers.0, numbers.1, leb-true _ _ order.0);
          bounds = (x.lo, x.hi, numbers.2, numbers.3, leb-true _ _ order.1);
        },
        numbers.0,
      )

  head_form_read : (version : Version) → HasHeadForm version r → IsSome (head_row_in version r)
  head_form_read version form = grind (arith, le-leb)

  head_fails : (version : Version) → version_in r ≡ Some version → (fault : TextFault) → head_in names version source target start r ≡ Err fault → BreaksAtHead names source target start r fault
  head_fails version number fault is =
      let Here = BreaksAtHead names source target start r in
      elim (require_err (head_row_in version r) (f.Row 1) _ fault is) [
        | inl none ↦ subst Here none.1 (
          refl,
          λ form.
              let own = subst (λ (v : Version). HasHeadForm v r) (some_same _ form.0 version form.1.number number) form.1 in
              let x = some_value (head_row_in version r) (head_form_read version own) in none_some _ x.0 none.0 x.1,
        )
        | inr x ↦
            let form = head_form_reported version number x.0 x.1 in
            elim (require_err (number_of names.places (field r 2)) (f.UnknownName 1) _ fault x.2) [
              | inl none ↦ subst Here none.1 (refl, (version, form.0), λ known. let k = some_value (number_of names.places (field r 2)) known.0 in none_some _ k.0 none.0 k.1)
              | inr from ↦ elim (require_err (number_of names.places (field r 3)) (f.UnknownName 1) _ fault from.2) [
                | inl none ↦ subst Here none.1 (refl, (version, form.0), λ known. let k = some_value (number_of names.places (field r 3)) known.1 in none_some _ k.0 none.0 k.1)
                | inr to ↦ elim (if_err (is_query from.0 to.0 x.0.start.0 source target start) _ (f.OtherQuery 1) fault to.2) [
                  | inl other ↦ subst Here other.1 (
                    refl,
                    (version, form.0),
                    (some_is _ _ from.1, some_is _ _ to.1),
                    tt,
                    tt,
                    λ asked.
                        false≢true (sym other.0 ∙ asked_is from.0 to.0 x.0.start.0 (some_same _ from.0 source from.1 asked.from) (some_same _ to.0 target to.1 asked.to)
                        (some_same _ x.0.start.0 start form.1 asked.since)),
                  )
                  | inr same ↦ absurd (let wrong = same.1 in cc)
                ]
              ]
            ]
      ]
    where
      asked_is : (from to since : ℕ) → from ≡ source → to ≡ target → since ≡ start → is_query from to since source target start ≡ true
      asked_is from to since a b c = rw (eq-eqb from source a, eq-eqb to target b, eq-eqb since start c) refl

  first_fails : (fault : TextFault) → first_in ≡ Err fault → BreaksAtHead names source target start r fault
  first_fails fault is = elim (require_err (version_in r) (f.Row 1) _ fault is) [
    | inl none ↦ subst (BreaksAtHead names source target start r) none.1 (refl, λ form. none_some _ form.0 none.0 form.1.number)
    | inr version ↦ head_fails version.0 version.1 fault version.2
  ]

  first_keeps : (head : Head) → first_in ≡ Ok head
      → ((version : Version) × HasHeadForm version r) × HasHeadNames names r × Unit {0} × Unit {0} × IsOfQuestion names source target start r
  first_keeps head is =
      let (version, number, own) = require-ok (version_in r) _ _ head is in
      let (row, asked) = head_reported names version r number source target start head own in (
        (
          version,
          record {
            is_of_kind = row.is_of_kind;
            number = number;
            moments = (head.query.start.0, head.query.deadline.0, row.start, row.deadline, let le = asked.in_time in omega (arith, le, asked.start));
            bounds = (head.bounds.lo, head.bounds.hi, row.lo, row.hi, asked.bounds);
          },
        ),
        (some_is _ _ row.source, some_is _ _ row.target),
        tt,
        tt,
        record { from = row.source ∙ ap (λ k. Some k) asked.source; to = row.target ∙ ap (λ k. Some k) asked.target; since = row.start ∙ ap (λ k. Some k) asked.start },
      )

  first_back : (fault : TextFault) → BreaksAtHead names source target start r fault → first_in ≡ Err fault
  first_back = broken_back 1 _ _ _ _ _ first_in first_keeps first_fails

-- ---- the rows of tables

module _ (n : NetworkModel) (names : NameLists) (version : Version) (valid : IsValid n) where
  -- what is to come in a state of the reader
  abbrev IsNext : Reading → Coming → Type 0
  IsNext s (PlaceNext last) = (s.remaining ≡ 0) × (option_map (λ place. place.0) s.place ≡ last)
  IsNext s (LegNext place more last) =
      (s.remaining ≡ suc more) × (option_map (λ place. place.0) s.place ≡ Some place) × (option_map (λ moment. moment.0) s.by ≡ last)

  place_of : (own : Option PlaceId) (place : ℕ) → option_map (λ place. place.0) own ≡ Some place → own ≡ Some (record { 0 = place })
  place_of own place is = grind arith

  -- after a leg row
  abbrev with_row : Reading → GraphRow → Reading
  with_row s row = if s.remaining == 1 then after_last s row else after_row s row

  next_after : (s : Reading) (place more : ℕ) (last : Option ℕ) (row : GraphRow) → IsNext s (LegNext place more last) → IsNext (with_row s row) (after_leg place more row.by.0)
  next_after s place more last row next = grind (arith, eq-eqb, ne_eqb)

  -- the step of a row of a place, and of a leg
  place_step : (line : ℕ) (r : List (List ℕ)) (s : Reading) (last : Option ℕ) → IsNext s (PlaceNext last) → step n names version line r s ≡ after_place_row s (table_in n names version line last r)
  place_step line r s last next = rw (eq-eqb s.remaining 0 next.0, next.1) refl

  leg_step_is : (line : ℕ) (r : List (List ℕ)) (s : Reading) (place more : ℕ) (last : Option ℕ) → IsNext s (LegNext place more last)
      → step n names version line r s ≡ after_leg_row s (row_in n names version line place last r)
  leg_step_is line r s place more last next =
      let many = next.0 in
      sym (leg_step n names version line r s (record { 0 = place }) (λ none. omega (arith, none, many)) (place_of s.place place next.1))
      ∙ ap (λ (by : Option ℕ). after_leg_row s (row_in n names version line place by r)) next.2

  place_step_err : (s : Reading) (reported : Result TableStart TextFault) (fault : TextFault) → after_place_row s reported ≡ Err fault → reported ≡ Err fault
  place_step_err s reported fault is = grind arith

  leg_step_err : (s : Reading) (reported : Result GraphRow TextFault) (fault : TextFault) → after_leg_row s reported ≡ Err fault → reported ≡ Err fault
  leg_step_err s reported fault is = grind (arith, cases_eq, eq-eqb, ne_eqb)

  leg_step_ok : (s : Reading) (row : GraphRow) → after_leg_row s (Ok row) ≡ Ok (with_row s row)
  leg_step_ok s row = grind (arith, cases_eq, eq-eqb, ne_eqb)

  rows_fail : (rs : List (List (List ℕ))) (line : ℕ) (s : Reading) (coming : Coming) (fault : TextFault) → IsNext s coming → place_tables_from n names version rs line s ≡ Err fault
      → HaveFirstFault n names version rs line coming fault
  rows_fail [] line s (PlaceNext last) fault next is = absurd (let wrong = rw (eq-eqb s.remaining 0 next.0) at is in cc)
  rows_fail [] line s (LegNext place more last) fault next is = grind (arith, ne_eqb)
  rows_fail (r ∷ rs) line s (PlaceNext last) fault next is = elim (then_err (step n names version line r s) _ fault is) [
    | inl here ↦ inl (table_fails n names version line r last fault (place_step_err s _ fault (sym (place_step line r s last next) ∙ here)))
    | inr later ↦
        let (t, reported, same) = place_row_is s later.0 (table_in n names version line last r) (sym (place_step line r s last next) ∙ later.1) in
        let row = table_reported n names version line r last t reported in
        let some = row.2 in
        let many : t.count ≡ suc (t.count - 1) = omega (arith, some) in
        inr (
          t.place.0,
          t.count - 1,
          subst (λ (k : ℕ). IsPlaceRow n names version t.place.0 k r) many row.1,
          row.0,
          rows_fail rs (line + 1) later.0 (LegNext t.place.0 (t.count - 1) None) fault
              (subst (λ (u : Reading). IsNext u (LegNext t.place.0 (t.count - 1) None)) same (many, refl, refl)) later.2,
        )
  ]
  rows_fail (r ∷ rs) line s (LegNext place more last) fault next is = elim (then_err (step n names version line r s) _ fault is) [
    | inl here ↦ inl (row_fails n names version line r valid place last fault (leg_step_err s _ fault (sym (leg_step_is line r s place more last next) ∙ here)))
    | inr later ↦
        let (row, reported, same) = leg_row_is s later.0 (row_in n names version line place last r) (sym (leg_step_is line r s place more last next) ∙ later.1) in
        let fields = row_reported n names version line r place last row reported in
        let now : with_row s row ≡ later.0 = ok_same (sym (leg_step_ok s row) ∙ same) in
        inr (
          row,
          record { fields = fields.1; fit = fields.2 },
          fields.0,
          rows_fail rs (line + 1) later.0 (after_leg place more row.by.0) fault
              (subst (λ (u : Reading). IsNext u (after_leg place more row.by.0)) now (next_after s place more last row next)) later.2,
        )
  ]

  rows_back : (rs : List (List (List ℕ))) (line : ℕ) (s : Reading) (coming : Coming) (fault : TextFault) → IsNext s coming → HaveFirstFault n names version rs line coming fault
      → place_tables_from n names version rs line s ≡ Err fault
  rows_back [] line s (PlaceNext last) fault next first = absurd first
  rows_back [] line s (LegNext place more last) fault next first = grind (arith, ne_eqb)
  rows_back (r ∷ rs) line s (PlaceNext last) fault next first = elim first [
    | inl here ↦ grind (arith, table_back)
    | inr later ↦
        let (place, more, row, up, rest) = later in
        let t : TableStart = record { place = record { 0 = place }; count = suc more } in
        let now : Reading = record { done = s.done; place = Some t.place; rows = []; by = None; remaining = t.count } in
        ap (λ r. and_then r (place_tables_from n names version rs (line + 1)))
        (place_step line r s last next ∙ ap (after_place_row s) (table_read n names version line r last t up row (omega arith)))
        ∙ rows_back rs (line + 1) now (LegNext place more None) fault (refl, refl, refl) rest
  ]
  rows_back (r ∷ rs) line s (LegNext place more last) fault next first = elim first [
    | inl here ↦ ap (λ r. and_then r (place_tables_from n names version rs (line + 1)))
        (leg_step_is line r s place more last next ∙ ap (after_leg_row s) (row_back n names version line r valid place last fault here))
    | inr later ↦
        let (row, reported, up, rest) = later in
        ap (λ r. and_then r (place_tables_from n names version rs (line + 1)))
        (leg_step_is line r s place more last next ∙ ap (after_leg_row s) (row_read n names version line r valid place last row up reported.fields reported.fit) ∙ leg_step_ok s row)
        ∙ rows_back rs (line + 1) (with_row s row) (after_leg place more row.by.0) fault (next_after s place more last row next) rest
  ]

  -- ---- all rows

  module _ (source target start : ℕ) where
    after_head_fails : (rs : List (List (List ℕ))) (fault : TextFault) → graph_after_first n names version source target start rs ≡ Err fault
        → HaveFaultAfterHead n names version source target start rs fault
    after_head_fails [] fault is = grind (arith, if_err, false≢true, eq-eqb)
    after_head_fails (r ∷ rs) fault is = elim (else_err (source == target) (started_in n names version source start r rs) (f.Row 2) fault is) [
      | inl here ↦ inl (subst (BreaksAtStart n names version source target start r) here.1 (refl, λ form. form.0 (eqb-true source target here.0)))
      | inr away ↦
          let differ : source ≢ target = λ same. false≢true (sym away.0 ∙ eq-eqb source target same) in
          elim (then_err (start_in n names version 2 source start r) _ fault away.1) [
            | inl fails ↦ inl (start_fails n names version 2 r valid source target start differ fault fails)
            | inr leg ↦ elim (then_err (place_tables_from n names version rs 3 no_tables) _ fault leg.2) [
              | inl fails ↦ inr (leg.0, start_of n names version 2 r valid source target start differ leg.0 leg.1, differ, rows_fail rs 3 no_tables (PlaceNext None) fault (refl, refl) fails)
              | inr tables ↦ absurd (let wrong = tables.2 in cc)
            ]
          ]
    ]

    -- where the two are one place no row may follow
    start_same : (r : List (List ℕ)) → source ≡ target → (fault : TextFault) → BreaksAtStart n names version source target start r fault → ◌≡◌ {A = Result PlanGraph TextFault} (Err (f.Row 2)) (Err fault)
    start_same r same fault broken = grind arith

    after_head_back : (rs : List (List (List ℕ))) (fault : TextFault) → HaveFaultAfterHead n names version source target start rs fault
        → graph_after_first n names version source target start rs ≡ Err fault
    after_head_back [] fault first = rw (ne_eqb source target first.1, first.0) refl
    after_head_back (r ∷ rs) fault first = elim (cases_eq source target) [
      | inl same ↦ rw (eq-eqb source target same) (elim first [ inl here ↦ start_same r same fault here | inr later ↦ absurd (later.2 same) ])
      | inr differ ↦ rw (ne_eqb source target differ) (elim first [
        | inl here ↦ grind (arith, start_back)
        | inr later ↦
            let (leg, reported, away, rest) = later in
            ap (λ r. and_then r (λ leg. and_then (place_tables_from n names version rs 3 no_tables) (λ tables. Ok (record { start = Some leg; tables = tables }))))
            (start_read n names version 2 r valid source start leg reported.fields reported.is_leg reported.leaves reported.in_time)
            ∙ ap (λ r. and_then r (λ tables. Ok (record { start = Some leg; tables = tables }))) (rows_back rs 3 no_tables (PlaceNext None) fault (refl, refl) rest)
      ])
    ]

module _ (n : NetworkModel) (names : NameLists) (valid : IsValid n) (source target start : ℕ) where
  pub records_fail : (rows : List (List (List ℕ))) (fault : TextFault) → graph_of_records n names source target start rows ≡ Err fault → HaveFault n names source target start rows fault
  records_fail [] fault is = (cc)
  records_fail (r ∷ rs) fault is = elim (require_err (version_in r) (f.Row 1) _ fault is) [
    | inl none ↦ inl (first_fails names r source target start fault (rw none.0 (ap (λ x. Err x) none.1)))
    | inr version ↦ elim (then_err (head_in names version.0 source target start r) _ fault version.2) [
      | inl here ↦ inl (head_fails names r source target start version.0 version.1 fault here)
      | inr head ↦
          let (row, asked) = head_reported names version.0 r version.1 source target start head.0 head.1 in
          elim (then_err (graph_after_first n names version.0 source target start rs) _ fault head.2) [
            | inl later ↦ inr (version.0, head.0, row, asked, after_head_fails n names version.0 valid source target start rs fault later)
            | inr graph ↦ absurd (let wrong = graph.2 in cc)
          ]
    ]
  ]

  pub records_back : (rows : List (List (List ℕ))) (fault : TextFault) → HaveFault n names source target start rows fault → graph_of_records n names source target start rows ≡ Err fault
  records_back [] fault first = ap (λ x. Err x) (sym first)
  records_back (r ∷ rs) fault first = elim first [
    | inl here ↦ first_err (version_in r) (f.Row 1) (λ version. head_in names version source target start r)
        (λ version head. and_then (graph_after_first n names version source target start rs) (λ graph. Ok (head, graph))) fault (first_back names r source target start fault here)
    | inr later ↦
        let (version, head, row, asked, rest) = later in
        let le = asked.in_time in
        let own : head_in names version source target start r ≡ Ok head =
        rw (← asked.source, ← asked.target, ← asked.start) (head_read names version r row.number head row (omega (arith, le, asked.start)) asked.bounds) in
        rw (row.number, own, after_head_back n names version valid source target start rs fault rest) refl
  ]

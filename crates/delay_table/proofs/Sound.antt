-- The classes of a table without a fault are valid.
use Rattle.delay_table.proofs.Common.{◌≡◌, ℕ, ◌+◌, ◌<◌, ◌≤◌, nat_lt, Bool, true, false, List, [], ◌∷◌, ◌++◌, length, map, get_or, sum_by, Option, Some, None, IfSome, option_map, if◌then◌else◌}
use Rattle.delay_table.proofs.Common.{refl, sym, ap, ◌∙◌, subst, arith, All, length-append, eqb-true, ltb-false, cases_Bool, get_or_default, length-map, All-cons, All-append, All-map, option_or}
use Rattle.delay_table.proofs.Common.{Outcome, IsValidRow, first_below, none-both, none-each, DelayFault, TooManyClasses, WeightSum, GroupSum, GroupRows, DelayLists, end_of_types, MOST_GROUPS}
use Rattle.delay_table.proofs.Common.{WHOLE_WEIGHT, Group, group_in, is_plain, of_class, plain_types, class_name, class_rows, class_sum, delays_in, group_sum_at, groups_fault, groups_of}
use Rattle.delay_table.proofs.Common.{route_types_below, no_default_of, other_sum, others, too_many_classes, type_rows, type_sum_at, AreGroupsRead, line_at, read_outcomes, AreDelays}
use Rattle.delay_table.proofs.Common.{IsGroupStart, row_count, first-same, delays_of, first_delay_fault, first_line, firsts, groups_at, line_fault, missing_column, group_outcomes, IsReadTo}
use Rattle.delay_table.proofs.{ReadFacts.{rows-are, rows_here, types-bounded}, Starts.starts, Others.others-from, NamedTypes.route_types_below-are, PlainTypes.groups-are}
use mathlib.Core.Path.{fun_ext}

none_mapped : (f : ℕ → DelayFault) (o : Option ℕ) → option_map f o ≡ None → o ≡ None
none_mapped f o h = grind arith

none_else : (b : Bool) (o : Option DelayFault) → b ≡ false → (if b then None else o) ≡ None → o ≡ None
none_else b o e h = grind (arith, cases_Bool b)

few_if : (b : Bool) (e : DelayFault) → (if b then Some e else None) ≡ None → b ≡ false
few_if b e h = grind (arith, cases_Bool b)

sum_if : (b : Bool) (n : ℕ) → (if b then None else Some n) ≡ None → b ≡ true
sum_if b n h = grind (arith, cases_Bool b)

sum_right : (r : List Outcome) → 0 < length r → other_sum r ≡ None → sum_by (λ o. o.weight) r ≡ WHOLE_WEIGHT
sum_right r some h = grind (arith, eqb-true, sum_by, sum_if)

valid_row : (r : List Outcome) → IsGroupStart r → 0 < length r → other_sum r ≡ None → IsValidRow r
valid_row r s some h = record { some = some; few = s.few; rising = s.rising; delays = s.delays; weights = s.weights; total = sum_right r some h }

default_some : (r : List Outcome) → no_default_of r ≡ None → 0 < length r
default_some r h = grind arith

module _ (groups : List Group) (read : List GroupRows) (is : AreGroupsRead groups read)
    (sound : groups_fault (read_outcomes groups read) groups (line_at read) ≡ None)
    (size : length (route_types_below (read_outcomes groups read) end_of_types) ≡ length (plain_types groups (length groups))) where
  abbrev own : Group → List Outcome
  own = read_outcomes groups read

  abbrev types : List ℕ
  types = route_types_below own end_of_types

  -- the faults of the groups, from the last
  abbrev types_fault : Option DelayFault
  types_fault = first_below (type_sum_at own types) (length types)

  abbrev others_fault : Option DelayFault
  others_fault = first_below (group_sum_at own groups (line_at read)) (length groups)

  abbrev default_fault : Option DelayFault
  default_fault = no_default_of (class_rows own None)

  parts : (too_many_classes (length groups) ≡ None) × (class_sum own None ≡ None) × (types_fault ≡ None) × (others_fault ≡ None) × (default_fault ≡ None)
  parts = grind (arith, none-both, own, types_fault, others_fault, default_fault)

  type_right : (k : ℕ) → k < length types → other_sum (type_rows own (get_or types k 0)) ≡ None
  type_right k l = none_mapped (WeightSum (class_name (Some (get_or types k 0)))) (other_sum (type_rows own (get_or types k 0))) (none-each (type_sum_at own types) (length types) parts.2 k l)

  group_right : (k : ℕ) → k < length groups → is_plain (group_in groups k) ≡ false → other_sum (own (group_in groups k)) ≡ None
  group_right k l e =
      none_mapped (GroupSum (line_at read k)) (other_sum (own (group_in groups k)))
      (none_else (is_plain (group_in groups k)) (option_map (GroupSum (line_at read k)) (other_sum (own (group_in groups k)))) e
      (none-each (group_sum_at own groups (line_at read)) (length groups) parts.3 k l))

  types_valid : All IsValidRow (map (type_rows own) types)
  types_valid = All-map IsValidRow (type_rows own) types (λ k d l.
      let e : get_or types k 0 ≡ get_or types k d = get_or_default types k 0 d l in
      subst (λ r. IsValidRow (type_rows own r)) e
      (valid_row (type_rows own (get_or types k 0)) (is.starts (of_class (Some (get_or types k 0)))) ((route_types_below-are own end_of_types).some k 0 l) (type_right k l)))

  others_valid : All IsValidRow (map own (others groups (length groups)))
  others_valid = All-map IsValidRow own (others groups (length groups)) (λ k d l.
      let w = others-from groups (length groups) k d l in
      grind (arith, valid_row, group_right))

  default_there : 0 < length (class_rows own None)
  default_there = default_some (class_rows own None) parts.4

  default_valid : IsValidRow (class_rows own None)
  default_valid = valid_row (class_rows own None) (is.starts (of_class None)) default_there (none_mapped (WeightSum (class_name None)) (other_sum (class_rows own None)) parts.1)

  few : length groups ≤ MOST_GROUPS
  few = ltb-false MOST_GROUPS (length groups) (few_if (nat_lt MOST_GROUPS (length groups)) (TooManyClasses (length groups)) parts.0)

  counted : length types + 1 + length (others groups (length groups)) ≡ length groups
  counted = groups-are groups read is size default_there

  class-count : length (class_rows own None ∷ map (type_rows own) types ++ map own (others groups (length groups))) ≡ length types + 1 + length (others groups (length groups))
  class-count = grind (arith, own, types, length-append, length-map)

  pub delays_valid : AreDelays (delays_in own groups)
  unfolding delays_in
  delays_valid = record {
    rising = λ i j less l. (route_types_below-are own end_of_types).rising i j 0 less l;
    few = omega (arith, class-count, counted, few);
    each = class-count;
    rows = λ k l. All-cons IsValidRow (class_rows own None) (map (type_rows own) types ++ map own (others groups (length groups))) default_valid
        (All-append IsValidRow (map (type_rows own) types) (map own (others groups (length groups))) types_valid others_valid) k [] l;
  }

  -- there are as many classes as groups
  pub classes-are : length (delays_in own groups).classes ≡ length groups
  unfolding delays_in
  classes-are = class-count ∙ counted

-- what is made of these groups
pub made-is : (rows : Group → List Outcome) (groups : List Group) (route_types : List ℕ) (os : List Group) (classes : List (List Outcome))
    → route_types ≡ route_types_below rows end_of_types → os ≡ others groups (length groups)
    → classes ≡ class_rows rows None ∷ map (type_rows rows) (route_types_below rows end_of_types) ++ map rows (others groups (length groups))
    → ◌≡◌ {A = DelayLists} (record { types = route_types; others = os; classes = classes }) (delays_in rows groups)
unfolding delays_in
made-is rows groups route_types os classes e f g = λ i. record { types = e i; others = f i; classes = g i }

bound_at : (o : Option ℕ) (r : ℕ) → IfSome o (λ n. n < end_of_types) → o ≡ Some r → r < end_of_types
bound_at o r h e = subst (λ (x : Option ℕ). IfSome x (λ n. n < end_of_types)) e h

-- the groups of all rows
pub is-read : (t : List (List (List ℕ))) (groups : List Group) (rows : List GroupRows) → first_below (line_fault t) (row_count t) ≡ None → IsReadTo t (row_count t) groups rows → AreGroupsRead groups rows
is-read t groups rows none r = record {
  size = r.size;
  apart = r.apart;
  some = λ k l. subst (λ (x : List Outcome). 0 < length x) (sym (rows_here groups rows r.apart k l)) (r.some k l);
  starts = λ group. subst IsGroupStart (sym (rows-are t (row_count t) groups rows r group)) (starts t (row_count t) none group);
  types = λ k route l is. bound_at (group_in groups k).class route
      (subst (λ (gs : List Group). IfSome (group_in gs k).class (λ route. route < end_of_types)) (sym r.are) (types-bounded t (firsts t (row_count t)) k (omega (arith, ap length r.are)))) is;
}

-- their faults are those of the table
pub groups-same : (t : List (List (List ℕ))) (n : ℕ) (groups : List Group) (rows : List GroupRows) → IsReadTo t n groups rows
    → groups_fault (read_outcomes groups rows) groups (line_at rows) ≡ groups_fault (group_outcomes t n) (groups_at t (firsts t n)) (first_line t n)
unfolding first_line
groups-same t n groups rows r =
    let same : read_outcomes groups rows ≡ group_outcomes t n = fun_ext (rows-are t n groups rows r) in
    grind (arith, first-same)

groups-of : (t : List (List (List ℕ))) → groups_at t (firsts t (row_count t)) ≡ groups_of t
unfolding groups_of
groups-of t = refl

pub delays-same : (t : List (List (List ℕ))) (groups : List Group) (rows : List GroupRows) → IsReadTo t (row_count t) groups rows → delays_in (read_outcomes groups rows) groups ≡ delays_of t
unfolding delays_of
delays-same t groups rows r = grind (arith, fun_ext, rows-are, groups-of)

abbrev last_fault : List (List (List ℕ)) → Option DelayFault
last_fault t = groups_fault (group_outcomes t (row_count t)) (groups_of t) (first_line t (row_count t))

pub column-first : (t : List (List (List ℕ))) (e : DelayFault) → Some e ≡ missing_column t → first_delay_fault t ≡ Some e
unfolding first_delay_fault
column-first t e h = ap (λ o. option_or o (option_or (first_below (line_fault t) (row_count t)) (last_fault t))) (sym h)

pub line-first : (t : List (List (List ℕ))) (e : DelayFault) → None ≡ missing_column t → first_below (line_fault t) (row_count t) ≡ Some e → first_delay_fault t ≡ Some e
unfolding first_delay_fault
line-first t e h k = grind (arith, last_fault)

pub fault-same : (t : List (List (List ℕ))) (groups : List Group) (rows : List GroupRows) → None ≡ missing_column t
    → first_below (line_fault t) (row_count t) ≡ None → IsReadTo t (row_count t) groups rows
    → groups_fault (read_outcomes groups rows) groups (line_at rows) ≡ first_delay_fault t
unfolding first_delay_fault
fault-same t groups rows h k r = grind (arith, last_fault, groups-of, groups-same)

-- there are as many groups as are read
pub groups-count : (t : List (List (List ℕ))) (groups : List Group) (rows : List GroupRows) → IsReadTo t (row_count t) groups rows → length groups ≡ length (groups_of t)
groups-count t groups rows r = ap length (r.are ∙ groups-of t)

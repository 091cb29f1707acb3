-- What a delay table is, and which of its faults comes first.
use Rattle.std.specs.Prelude.{ℕ, zero, suc, ◌+◌, ◌-◌, ◌==◌, nat_lt, nat_le, true, Bool, List, [], ◌∷◌, ◌++◌, length, map, sum_by, slice_get, slice_index}
use Rattle.std.specs.{Prelude.{Option, Some, None, option_map, is_none, if◌then◌else◌, codes}, Str.bytes_eq, Option.option_or}
use Rattle.clock_text.specs.Digits.{whole_of}
use Rattle.plan_model.specs.{declared.{model.Outcome.Outcome, units.TheConstants.WHOLE_WEIGHT}, Bounds.seconds_per_day}
use Rattle.csv_rows.specs.{declared.columns.Column.{Column, TheVariants.{Class, Delay, Weight, RouteId, Hour}}, Lists.first_below, Ids.name_in, Tables.index_of}
use Rattle.csv_rows.specs.Tables.{field, row_count}
use Rattle.delay_table.specs.declared.faults.{ClassName.{ClassName, TheVariants.{Any, Route}}, DelayFault.{DelayFault, TheVariants.{MissingColumn, BadField}}}
use Rattle.delay_table.specs.declared.faults.DelayFault.TheVariants.{TooManyRows, GroupRows, NotRising, TooManyClasses, WeightSum, GroupSum, NoDefault}
use Rattle.delay_table.specs.declared.{reading.TheConstants.MOST_ROWS, sums.TheConstants.MOST_GROUPS, lines.TheConstants.{LAST_TYPE, LAST_HOUR}}
use Rattle.delay_table.specs.{DelayLists.{end_of_types, DelayLists}, Groups.{Group, of_class, group_in, is_plain, same_group}}

-- a row: the group that it is of, and its outcome
pub record Line : Type 0 where
  pub group : Group
  pub outcome : Outcome

abbrev pub line_with : (class : Option ℕ) → (route : Option (List ℕ)) → (hour : Option ℕ) → Outcome → Line
line_with class route hour outcome = record { group = record { class = class; route = route; hour = hour }; outcome = outcome }

-- a class by its name
abbrev pub class_name : Option ℕ → ClassName
class_name None = Any
class_name (Some route) = Route route

abbrev pub class_type : ClassName → Option ℕ
class_type Any = None
class_type (Route route) = Some route

-- `*`, or a route type
abbrev pub delay_class_in : List ℕ → Option (Option ℕ)
delay_class_in text = if bytes_eq text (codes "*") then Some None else option_map Some (whole_of LAST_TYPE text)

-- a whole number from 1 on
abbrev pub not_zero : Option ℕ → Option ℕ
not_zero None = None
not_zero (Some n) = if n == 0 then None else Some n

-- a route, which only a row of the class `*` may have
abbrev pub route_in : Option ℕ → List ℕ → Option (Option (List ℕ))
route_in class text = if length text == 0 then Some None else if is_none class then option_map Some (name_in text) else None

-- an hour of the day
abbrev pub hour_in : List ℕ → Option (Option ℕ)
hour_in text = if length text == 0 then Some None else option_map Some (whole_of LAST_HOUR text)

-- what comes next, where this is there
abbrev pub given : {A B : Type 0} → Option A → (A → Option B) → Option B
given None next = None
given (Some a) next = next a

-- the row of these fields, where each is of its form
abbrev pub line_from : (class delay weight route hour : List ℕ) → Option Line
line_from class delay weight route hour =
    given (delay_class_in class) (λ class'.
    given (whole_of seconds_per_day delay) (λ delay'.
    given (not_zero (whole_of WHOLE_WEIGHT weight)) (λ weight'.
    given (route_in class' route) (λ route'.
    given (hour_in hour) (λ hour'.
    Some (record {
      group = record { class = class'; route = route'; hour = hour' };
      outcome = record { delay = delay'; weight = weight' };
    }))))))

-- the row i of the table
unfoldable pub line_at : List (List (List ℕ)) → ℕ → Option Line
line_at t i = line_from (field t Class i) (field t Delay i) (field t Weight i) (field t RouteId i) (field t Hour i)

-- its outcome, if it is of the group
abbrev pub of_group : Group → Option Line → List Outcome
of_group group None = []
of_group group (Some line) = if same_group line.group group then line.outcome ∷ [] else []

-- the outcomes of a group in the first n rows, in their order
unfoldable pub group_outcomes : List (List (List ℕ)) → ℕ → Group → List Outcome
group_outcomes t zero group = []
group_outcomes t (suc n) group = group_outcomes t n group ++ of_group group (line_at t n)

-- the first column that is not there
abbrev pub column_fault : List (List (List ℕ)) → Column → Option DelayFault
column_fault t column = if is_none (index_of column t) then Some (MissingColumn column) else None

abbrev pub missing_column : List (List (List ℕ)) → Option DelayFault
missing_column t = option_or (column_fault t Class) (option_or (column_fault t Delay) (column_fault t Weight))

-- a delay is greater than that of the group's row before
abbrev pub delay_rises : Option Outcome → ℕ → Bool
delay_rises None delay = true
delay_rises (Some o) delay = nat_lt o.delay delay

-- a group has too many rows
abbrev pub too_many : Group → ℕ → DelayFault
too_many group number = if is_plain group then TooManyRows (class_name group.class) else GroupRows number

-- the fault of a row after these of its group
abbrev pub fault_after : List Outcome → Line → ℕ → Option DelayFault
fault_after earlier line number =
    if nat_le MOST_ROWS (length earlier) then Some (too_many line.group number)
    else if delay_rises (slice_get earlier (length earlier - 1)) line.outcome.delay then None
    else Some (NotRising number)

-- and of a row of a table that has these outcomes of each group before it
abbrev pub fault_of : (Group → List Outcome) → Option Line → ℕ → Option DelayFault
fault_of earlier None number = Some (BadField number)
fault_of earlier (Some line) number = fault_after (earlier line.group) line number

-- the fault of row i, whose line is i + 2
unfoldable pub line_fault : List (List (List ℕ)) → ℕ → Option DelayFault
line_fault t i = fault_of (group_outcomes t i) (line_at t i) (i + 2)

-- a row, if no row before it is of its group
abbrev pub if_begins : List Outcome → ℕ → List ℕ
if_begins [] i = i ∷ []
if_begins (o ∷ os) i = []

abbrev pub begins : (Group → List Outcome) → Option Line → ℕ → List ℕ
begins earlier None i = []
begins earlier (Some line) i = if_begins (earlier line.group) i

-- the first n rows of which each is the first of its group
unfoldable pub firsts : List (List (List ℕ)) → ℕ → List ℕ
firsts t zero = []
firsts t (suc n) = firsts t n ++ begins (group_outcomes t n) (line_at t n) n

abbrev pub group_of : Option Line → Group
group_of None = of_class None
group_of (Some line) = line.group

-- the groups of these rows
unfoldable pub groups_at : List (List (List ℕ)) → List ℕ → List Group
groups_at t rows = map (λ i. group_of (line_at t i)) rows

abbrev pub too_many_classes : ℕ → Option DelayFault
too_many_classes count = if nat_lt MOST_GROUPS count then Some (TooManyClasses count) else None

-- the sum of the weights of outcomes, where there are some and it is not the whole
abbrev pub other_sum : List Outcome → Option ℕ
other_sum [] = None
other_sum (o ∷ os) = if sum_by (λ o. o.weight) (o ∷ os) == WHOLE_WEIGHT then None else Some (sum_by (λ o. o.weight) (o ∷ os))

-- the outcomes of a class alone, and those of a route type
abbrev pub class_rows : (Group → List Outcome) → Option ℕ → List Outcome
class_rows rows class = rows (of_class class)

abbrev pub type_rows : (Group → List Outcome) → ℕ → List Outcome
type_rows rows route = class_rows rows (Some route)

-- the fault of a class alone, by the outcomes of the whole table
abbrev pub class_sum : (Group → List Outcome) → Option ℕ → Option DelayFault
class_sum rows class = option_map (WeightSum (class_name class)) (other_sum (class_rows rows class))

-- that of the route type at a index among these
abbrev pub type_sum_at : (Group → List Outcome) → List ℕ → ℕ → Option DelayFault
type_sum_at rows types k = class_sum rows (Some (slice_index types k))

-- that of a group that names a route or an hour, by its first line
abbrev pub group_sum : Group → ℕ → List Outcome → Option DelayFault
group_sum group line row = if is_plain group then None else option_map (GroupSum line) (other_sum row)

abbrev pub group_sum_at : (Group → List Outcome) → List Group → (ℕ → ℕ) → ℕ → Option DelayFault
group_sum_at rows groups line_of k = group_sum (group_in groups k) (line_of k) (rows (group_in groups k))

abbrev pub no_default_of : List Outcome → Option DelayFault
no_default_of [] = Some NoDefault
no_default_of (o ∷ os) = None

-- one element, if it has outcomes
abbrev pub if_some : List Outcome → ℕ → List ℕ
if_some [] r = []
if_some (o ∷ os) r = r ∷ []

-- the route types below n that have outcomes, rising
unfoldable pub route_types_below : (Group → List Outcome) → ℕ → List ℕ
route_types_below rows zero = []
route_types_below rows (suc n) = route_types_below rows n ++ if_some (type_rows rows n) n

-- one element, where the group names a route or an hour
abbrev pub if_other : {A : Type 0} → Group → A → List A
if_other group x = if is_plain group then [] else x ∷ []

-- the groups among the first n that name a route or an hour
unfoldable pub others : List Group → ℕ → List Group
others groups zero = []
others groups (suc n) = others groups n ++ if_other (group_in groups n) (group_in groups n)

-- the first of the faults of the groups: their number; then that of `*`, and those of the route types that are named, rising; then
-- those of the others by their first lines
abbrev pub groups_fault : (Group → List Outcome) → List Group → (ℕ → ℕ) → Option DelayFault
groups_fault rows groups line_of =
    option_or (too_many_classes (length groups))
    (option_or (class_sum rows None)
    (option_or (first_below (type_sum_at rows (route_types_below rows end_of_types)) (length (route_types_below rows end_of_types)))
    (option_or (first_below (group_sum_at rows groups line_of) (length groups)) (no_default_of (class_rows rows None)))))

-- the first lines of the groups of the first n rows
unfoldable pub first_line : List (List (List ℕ)) → ℕ → ℕ → ℕ
first_line t n k = slice_index (firsts t n) k + 2

-- the groups of a table, in the order of their first lines
unfoldable pub groups_of : List (List (List ℕ)) → List Group
groups_of t = groups_at t (firsts t (row_count t))

-- the first of all faults
unfoldable pub first_delay_fault : List (List (List ℕ)) → Option DelayFault
first_delay_fault t =
    option_or (missing_column t) (option_or (first_below (line_fault t) (row_count t))
    (groups_fault (group_outcomes t (row_count t)) (groups_of t) (first_line t (row_count t))))

-- the route types, the other groups, and the classes: that of `*`, and then those of the route types and of the other groups
unfoldable pub delays_in : (Group → List Outcome) → List Group → DelayLists
delays_in rows groups = record {
  types = route_types_below rows end_of_types;
  others = others groups (length groups);
  classes = class_rows rows None ∷ map (type_rows rows) (route_types_below rows end_of_types) ++ map rows (others groups (length groups));
}

-- the delays of a table
unfoldable pub delays_of : List (List (List ℕ)) → DelayLists
delays_of t = delays_in (group_outcomes t (row_count t)) (groups_of t)

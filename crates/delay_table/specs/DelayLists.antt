-- A delay table as lists, and which of its classes a connection has.
use Rattle.std.specs.{Prelude.{ℕ, ◌+◌, ◌==◌, ◌/◌, ◌%◌, List, length, slice_index, Option, Some, None, option_map, unwrap_or, if◌then◌else◌}, Option.option_or}
use Rattle.plan_model.specs.declared.{model.Outcome.Outcome, units.TheConstants.{HOURS_PER_DAY, SECONDS_PER_HOUR}}
use Rattle.csv_rows.specs.Lists.{first_below}
use Rattle.delay_table.specs.Groups.{Group, group_index}

-- each route type is below it
abbrev pub end_of_types : ℕ
end_of_types = 65535

-- the named route types, rising; the groups that name a route or an hour; and the outcomes of class 0, of each route type
-- and of each such group
pub record DelayLists : Type 0 where
  pub types : List ℕ
  pub others : List Group
  pub classes : List (List Outcome)

-- the hour of the day of a moment, on the civil clock
abbrev pub hour_of : ℕ → ℕ
hour_of moment = (moment / SECONDS_PER_HOUR) % HOURS_PER_DAY

-- the index of a route type among those that are named
unfoldable pub type_index : List ℕ → ℕ → Option ℕ
type_index types route = first_below (λ k. if slice_index types k == route then Some k else None) (length types)

-- the class of a route type, where it is named, or of `*`
abbrev pub type_class : DelayLists → Option ℕ → Option ℕ
type_class d None = Some 0
type_class d (Some route) = option_map (λ k. k + 1) (type_index d.types route)

-- the class of a group that names a route or an hour, where it is there
abbrev pub other_class : DelayLists → Group → Option ℕ
other_class d group = option_map (λ k. length d.types + 1 + k) (group_index group d.others)

-- the class of a route, at an hour if there is one
abbrev pub route_class : DelayLists → Option (List ℕ) → Option ℕ → Option ℕ
route_class d None hour = None
route_class d (Some route) hour = other_class d (record { class = None; route = Some route; hour = hour })

-- the class of a route type, or of `*`, at an hour
abbrev pub hour_class : DelayLists → Option ℕ → ℕ → Option ℕ
hour_class d class hour = other_class d (record { class = class; route = None; hour = Some hour })

-- the class of a connection, by its route type, its route where it has one, and the hour of its arrival: that of the first group
-- that is there among those of this route and hour, this route, this route type and hour, this route type, `*` and this hour,
-- and `*`
abbrev pub class_at : DelayLists → (class : Option ℕ) → (route : Option (List ℕ)) → (hour : ℕ) → ℕ
class_at d class route hour =
    unwrap_or (option_or (route_class d route (Some hour)) (option_or (route_class d route None)
    (option_or (hour_class d class hour) (option_or (type_class d class) (hour_class d None hour))))) 0

-- the same by the moment of its arrival
unfoldable pub class_for : DelayLists → (class : Option ℕ) → (route : Option (List ℕ)) → (arr : ℕ) → ℕ
class_for d class route arr = class_at d class route (hour_of arr)

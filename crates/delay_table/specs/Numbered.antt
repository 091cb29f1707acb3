-- Groups by the numbers of their routes.
use Rattle.std.specs.{Prelude.{◌≡◌, ℕ, ◌<◌, Bool, ◌&&◌, List, map, length, slice_index_or, Option, None, IfSome, option_map, position}, Borrow.Bor, HashMap.get}
use Rattle.std.specs.Str.{bytes_eq}
use Rattle.delay_table.specs.declared.{groups.LineGroup.LineGroup, numbered.NumberedGroup.NumberedGroup, other_groups.OtherGroups.TheInside.Inside}
use Rattle.delay_table.specs.Groups.{Group, same_if, same_number, numbered_route, routes_of}
use Rattle.delay_table.specs.declared.groups.Groups.TheInside as line_groups
use Rattle.delay_table.specs.declared.numbered.NumberedGroups.TheInside as numbered

-- the group of a line's class, route and hour
abbrev pub line_group : LineGroup → Group
line_group g = record { class = g.class; route = option_map (λ s. s.now) g.route; hour = g.hour }

abbrev pub same_text : Bor (List ℕ) → Bor (List ℕ) → Bool
same_text a b = bytes_eq a.now b.now

abbrev pub same_line : LineGroup → LineGroup → Bool
same_line a b = same_if same_number a.class b.class && (same_if same_text a.route b.route && same_if same_number a.hour b.hour)

abbrev pub line_groups_of : line_groups.Inside → List Group
line_groups_of s = map line_group s.groups.keys

abbrev pub no_group : NumberedGroup
no_group = record { class = None; route = None; hour = None }

-- the group of a numbered one
abbrev pub named_group : List (List ℕ) → NumberedGroup → Group
named_group routes g = record { class = g.class; route = numbered_route routes g.route; hour = g.hour }

abbrev pub same_numbered : NumberedGroup → NumberedGroup → Bool
same_numbered a b = same_if same_number a.class b.class && (same_if same_number a.route b.route && same_if same_number a.hour b.hour)

-- each group is found at its index
abbrev pub AreAtIndexes : numbered.Inside → Type 0
AreAtIndexes s = (group : NumberedGroup) → get same_numbered s.indexes group ≡ position (same_numbered group) s.list.items

abbrev pub groups_of : Inside → List Group
groups_of s = map (named_group s.routes) s.groups

-- each number is that of a route
abbrev pub AreNumbers : List (List ℕ) → List NumberedGroup → Type 0
AreNumbers routes keys = (k : ℕ) → k < length keys → IfSome (slice_index_or keys k no_group).route (λ n. n < length routes)

-- these are groups by the numbers of their routes
pub record IsNumbering (routes : List (List ℕ)) (keys : List NumberedGroup) (groups : List Group) : Type 0 where
  pub named : routes ≡ routes_of groups
  pub numbers : AreNumbers routes keys
  pub are : map (named_group routes) keys ≡ groups

abbrev pub AreNumberedGroups : Inside → Type 0
AreNumberedGroups s = IsNumbering s.routes s.groups (groups_of s)

-- this is the number of a route, if there is one
pub record IsNumber (routes : List (List ℕ)) (number : Option ℕ) (route : Option (List ℕ)) : Type 0 where
  pub inside : IfSome number (λ n. n < length routes)
  pub is : numbered_route routes number ≡ route

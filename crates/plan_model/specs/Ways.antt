-- The ways between places, the latest arrival from which a leg is reached, and choices of a leg by place and arrival.
use Rattle.std.specs.{Prelude.{ℕ, ◌-◌, List, ◌∷◌, Option, Some, None, ◌==◌, nat_le, if◌then◌else◌, find, ◌≡◌, ◌≤◌}, Option.{option_map, option_and_then}}
use Rattle.plan_model.specs.{declared.model.{Leg.Leg, Way.Way}, Network.{NetworkModel, from_of, dep_of, change_of, links_into}}

-- the way from a place to itself: a change, in its change time
abbrev pub own_way : NetworkModel → ℕ → Way
own_way network place = record { from = record { 0 = place }; seconds = change_of network place }

-- the ways into a place: from the place itself, and then the links from others
abbrev pub ways_into : NetworkModel → ℕ → List Way
ways_into network place = own_way network place ∷ links_into network place

-- the seconds of the first way from a place in a list
abbrev pub way_in : List Way → ℕ → Option ℕ
way_in ways place = option_map (λ way. way.seconds) (find (λ way. way.from.0 == place) ways)

-- the seconds from who arrives at one place to who may board at another, where there is a way
abbrev pub way_of : NetworkModel → ℕ → ℕ → Option ℕ
way_of network from to = way_in (ways_into network to) from

-- the moment that is these seconds earlier, if that is not before all time
abbrev pub earlier_by : ℕ → ℕ → Option ℕ
earlier_by moment seconds = if nat_le seconds moment then Some (moment - seconds) else None

-- the latest arrival at a place from which the leg can be taken, where there is one
abbrev pub limit_of : NetworkModel → ℕ → Leg → Option ℕ
limit_of network place leg = option_and_then (earlier_by (dep_of network leg.enter.0)) (way_of network place (from_of network leg.enter.0))

-- the leg that is chosen after an arrival at a place can be reached, and is chosen up to its limit
pub record IsKept (network : NetworkModel) (choice : ℕ → ℕ → Option Leg) (place arrival : ℕ) (leg : Leg) : Type 0 where
  pub limit : ℕ
  pub is_limit : limit_of network place leg ≡ Some limit
  pub in_time : arrival ≤ limit
  pub kept : (later : ℕ) → arrival ≤ later → later ≤ limit → choice place later ≡ Some leg

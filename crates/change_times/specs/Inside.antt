-- The change times of places and the links between them, as they are kept.
use Rattle.std.specs.{Prelude.{ℕ, ◌≤◌, nat_eq, IfSome}, HashMap.get}
use Rattle.plan_model.specs.{Bounds.seconds_per_day, Network.AreLinksInto}
use Rattle.change_times.specs.{declared.changes.Changes.TheInside.Inside, Changes.ChangeParts, Links.ways_at}

abbrev pub change_parts_of : Inside → ChangeParts
change_parts_of c = record { reported = c.seconds.entries; links = c.links.items; passed = c.passed }

-- no change is longer than a day, and the links into each place rise and come from others
pub record AreSound (c : Inside) : Type 0 where
  pub short : (place : ℕ) → IfSome (get nat_eq c.seconds place) (λ seconds. seconds ≤ seconds_per_day)
  pub links : (place : ℕ) → AreLinksInto 4294967296 place (ways_at c.links.items place)

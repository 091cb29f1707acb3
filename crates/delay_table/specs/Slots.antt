-- The outcomes of the classes by their numbers.
use Rattle.std.specs.Prelude.{◌≡◌, ℕ, ◌+◌, ◌<◌, ◌≤◌, List, [], length, slice_index_or, slice_get, Some, Contains, All, AllPairs, zero, suc}
use Rattle.plan_model.specs.{declared.model.Outcome.Outcome, DelayRows.IsValidRow, Bounds.seconds_per_day}
use Rattle.delay_table.specs.{declared.{reading.TheConstants.MOST_ROWS, sums.TheConstants.MOST_GROUPS}, DelayLists.DelayLists}

abbrev pub slot : List (List Outcome) → ℕ → List Outcome
slot slots c = slice_index_or slots c []

-- what holds of the outcomes of a group before its last row
pub record IsGroupStart (r : List Outcome) : Type 0 where
  pub few : length r ≤ MOST_ROWS
  pub rising : AllPairs (λ a b. a.delay < b.delay) r
  pub delays : All (λ o. o.delay ≤ seconds_per_day) r
  pub weights : All (λ o. 1 ≤ o.weight) r

-- the route types rise, and each class has a valid row
pub record AreDelays (f : DelayLists) : Type 0 where
  pub rising : (i j : ℕ) → i < j → j < length f.types → slice_index_or f.types i 0 < slice_index_or f.types j 0
  pub few : length f.classes ≤ MOST_GROUPS
  pub each : length f.classes ≡ length f.types + 1 + length f.others
  pub rows : (k : ℕ) → k < length f.classes → IsValidRow (slice_index_or f.classes k [])

-- 0 where the route type is not named, and else its index among the named ones, from 1 on
abbrev pub IsClassOf : List ℕ → ℕ → ℕ → Type 0
IsClassOf types route zero = ¬ Contains types route
IsClassOf types route (suc k) = slice_get types k ≡ Some route

-- What the value of a decision graph says.
use Rattle.std.specs.Prelude.{◌≡◌, ◌-◌, ◌*◌, ◌≤◌}
use Rattle.plan_model.specs.{Bounds.nanos_per_second, Expected.{Below, Encloses, arrival}, declared.model.Query.Query, Network.{NetworkModel, count}, Tree.Tree}
use Rattle.plan_model.specs.Strategy.{IsSafeFor}
use Rattle.interval_fixed.specs.Interval.{Interval}
use Rattle.value_laws.specs.{Spans.{rounded_up, rounded_down}, ScoreLaws.Scoring}

-- the strategy is safe; the value covers it and is below every safe strategy, this one too;
-- its gap is at most the number of connections; if source and target are one place, it is that of having arrived at the start
pub record IsBestBy {V : Type 0} (scoring : Scoring V) (network : NetworkModel) (query : Query) (strategy : Tree) (value : V) : Type 0 where
  pub safe : IsSafeFor network query strategy
  pub covers_own : scoring.covers value strategy
  pub below_safe : (tree : Tree) → IsSafeFor network query tree → scoring.below value tree
  pub gap_within : scoring.gap value ≤ count network
  pub at_once : query.source.0 ≡ query.target.0 → value ≡ scoring.arrived query.start.0

-- the strategy is safe; the bounds enclose its expected arrival, and the upper one is that with each mean rounded up, ride by ride: the least of
-- all safe strategies; the lower one is below that of every safe strategy, and at most that with each mean rounded down; they differ by at most
-- one nanosecond for each connection of the network; if source and target are one place, both are the start
pub record IsBest (network : NetworkModel) (query : Query) (strategy : Tree) (bounds : Interval) : Type 0 where
  pub safe : IsSafeFor network query strategy
  pub encloses : Encloses bounds.lo bounds.hi strategy
  pub rounded : bounds.hi ≡ rounded_up nanos_per_second arrival strategy
  pub below_safe : (tree : Tree) → IsSafeFor network query tree → Below bounds.lo tree
  pub least : (tree : Tree) → IsSafeFor network query tree → bounds.lo ≤ rounded_down nanos_per_second arrival tree
  pub least_up : (tree : Tree) → IsSafeFor network query tree → bounds.hi ≤ rounded_up nanos_per_second arrival tree
  pub gap : bounds.hi - bounds.lo ≤ count network
  pub at_once : query.source.0 ≡ query.target.0 → bounds ≡ record { lo = nanos_per_second * query.start.0; hi = nanos_per_second * query.start.0 }

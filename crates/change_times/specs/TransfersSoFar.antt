-- What the first rows of a table say, as it is noted.
use Rattle.std.specs.{Prelude.{◌≡◌, ℕ, ◌≤◌, nat_eq, length, IfSome}, HashMap.get}
use Rattle.plan_model.specs.Bounds.{seconds_per_day}
use Rattle.table_files.specs.Loading.{Records}
use Rattle.gtfs_tables.specs.Feeds.{FeedParts}
use Rattle.change_times.specs.{declared.changes.TransfersSoFar.TransfersSoFar, Walks.{walks_of, most_to}, Changes.{greatest_change, greatest_link}}
use Rattle.change_times.specs.Changes.{passed_below}

-- it is what the first n rows say, and no seconds are more than a day
pub record AreCollected (feed : FeedParts) (t : Records) (n : ℕ) (reported : TransfersSoFar) : Type 0 where
  pub size : length reported.walks.items ≡ length feed.stop_ids
  pub seconds : (place : ℕ) → get nat_eq reported.seconds place ≡ greatest_change feed t n place
  pub walks : (from to : ℕ) → most_to to (walks_of reported.walks.items from) ≡ greatest_link feed t n from to
  pub short : (place : ℕ) → IfSome (get nat_eq reported.seconds place) (λ seconds. seconds ≤ seconds_per_day)
  pub brief : (from to : ℕ) → IfSome (greatest_link feed t n from to) (λ seconds. seconds ≤ seconds_per_day)
  pub passed : reported.passed ≡ passed_below feed t n
  pub few : reported.passed ≤ n

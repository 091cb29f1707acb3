-- The tables of a scan.
use Rattle.std.specs.Prelude.{◌≡◌, ℕ, ◌+◌, ◌<◌, ◌≤◌, Bool, List, [], length, Option, None, is_some, slice_index_or, nat_le, ◌&&◌, count_by, if◌then◌else◌}
use Rattle.plan_model.specs.{declared.model.{Connection.Connection, ConnectionId.ConnectionId}, Network.{NetworkModel, count, from_of, run_of, IsValid}}
use Rattle.plan_model.specs.{Ways.way_of, Order.{IsScanOrder, IsPrefixUpTo}}
use Rattle.stop_profile.specs.{declared.Row.Row, Inserts.ShownProfile}
use Rattle.trip_exit.specs.Offers.{Exit}

-- what is used as the profile of a place that is not there
abbrev pub no_profile : {V : Type 0} → ShownProfile V
no_profile = record { spare = 0; rows = [] }

-- the rows of each place
abbrev pub rows_of_profile : {V : Type 0} → List (ShownProfile V) → ℕ → List (Row V)
rows_of_profile profiles place = (slice_index_or profiles place no_profile).rows

-- the room of each place
abbrev pub spare_at : {V : Type 0} → List (ShownProfile V) → ℕ → ℕ
spare_at profiles place = (slice_index_or profiles place no_profile).spare

-- how many rows each place has room for, those that it holds among them
abbrev pub capacity_at : {V : Type 0} → List (ShownProfile V) → ℕ → ℕ
capacity_at profiles place = spare_at profiles place + length (rows_of_profile profiles place)

-- the exit of each run
abbrev pub exit_at : {V : Type 0} → List (Option (Exit V)) → ℕ → Option (Exit V)
exit_at exits run = slice_index_or exits run None

-- whether a way leads from a place to another
abbrev pub has_way : NetworkModel → ℕ → ℕ → Bool
has_way network place to = is_some (way_of network place to)

-- whether a connection departs by a moment, and can be boarded by a way from a place
abbrev pub is_boardable_by : NetworkModel → ℕ → ℕ → Connection → Bool
is_boardable_by network last place connection = nat_le connection.dep.0 last && has_way network place connection.from.0

-- how many ways lead from a place to another: one, or none
abbrev pub ways_between : NetworkModel → ℕ → ℕ → ℕ
ways_between network place to = if has_way network place to then 1 else 0

-- how many of the connections can be boarded by a way from a place
abbrev pub boardable : NetworkModel → ℕ → List ConnectionId → ℕ
boardable network place ids = count_by (λ id. has_way network place (from_of network id.0)) ids

-- at each place there is room for the row of a connection that can be boarded from there
abbrev pub HasRoomFor : {V : Type 0} → NetworkModel → ℕ → List (ShownProfile V) → Type 0
HasRoomFor network id profiles = (place : ℕ) → place < length network.change → ways_between network place (from_of network id) ≤ spare_at profiles place

-- the tables have room for the connections that remain
pub record HasRoom {V : Type 0} (network : NetworkModel) (rest : List ConnectionId) (profiles : List (ShownProfile V)) (exits : List (Option (Exit V))) : Type 0 where
  pub places : length profiles ≡ length network.change
  pub runs : (i : ℕ) → i < count network → run_of network i < length exits
  pub room : (place : ℕ) → place < length profiles → boardable network place rest ≤ spare_at profiles place

-- nothing is kept yet
pub record IsEmpty {V : Type 0} (profiles : List (ShownProfile V)) (exits : List (Option (Exit V))) : Type 0 where
  pub no_rows : (place : ℕ) → rows_of_profile profiles place ≡ []
  pub no_exits : (run : ℕ) → exit_at exits run ≡ None

-- the memory of a scan, as clauses see it
pub record ShownTables (V : Type 0) : Type 0 where
  pub profiles : List (ShownProfile V)
  pub exits : List (Option (Exit V))

-- the tables are empty, and were made for the network, which is valid
pub record FitsTables {V : Type 0} (network : NetworkModel) (tables : ShownTables V) : Type 0 where
  pub valid : IsValid network
  pub empty : IsEmpty tables.profiles tables.exits
  pub room : (order : List ConnectionId) → IsScanOrder network order → HasRoom network order tables.profiles tables.exits

-- the tables are empty, and have room for a scan of the connections that depart by a moment
pub record FitsTablesBy {V : Type 0} (network : NetworkModel) (last : ℕ) (tables : ShownTables V) : Type 0 where
  pub valid : IsValid network
  pub empty : IsEmpty tables.profiles tables.exits
  pub room : (order rest : List ConnectionId) → IsScanOrder network order → IsPrefixUpTo network last order rest → HasRoom network rest tables.profiles tables.exits

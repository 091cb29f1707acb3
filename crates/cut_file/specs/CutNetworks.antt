-- The network and the names that the rows of a cut file make with the delays of a table.
use Rattle.std.specs.Prelude.{◌≡◌, ℕ, zero, suc, ◌<◌, ◌==◌, max, Bool, List, [], length, slice_index_or, Option, Some, None, if◌then◌else◌, slice_get}
use Rattle.std.specs.Str.{bytes_eq}
use Rattle.plan_model.specs.{declared.model.Connection.Connection, Network.{NetworkModel, change_of, count, connection}, NameLists.NameLists}
use Rattle.delay_table.specs.DelayLists.{DelayLists, class_for}
use Rattle.cut_file.specs.{declared.rows.CutRow.CutRow, CutKeys.cut_row, Read.Cut, CutRows.Row, Faults.row, NumberedRows.{run_names, place_names}}
use Rattle.csv_rows.specs.{declared.keys.Key.Key, Keys.key_at, Tables.row_count}

-- a row as a connection; a cut file has no routes
pub record IsConnection (delays : DelayLists) (r : CutRow) (c : Connection) : Type 0 where
  pub from : c.from.0 ≡ r.from
  pub to : c.to.0 ≡ r.to
  pub dep : c.dep.0 ≡ r.dep
  pub arr : c.arr.0 ≡ r.arr
  pub run : c.run.0 ≡ r.run
  pub step : c.step ≡ r.step
  pub class : c.class.0 ≡ class_for delays r.class None r.arr
  pub board : c.can_board ≡ r.board
  pub exit : c.can_exit ≡ r.exit

-- the rows in the order of run and step, as connections
pub record AreConnections (delays : DelayLists) (rows : List CutRow) (keys : List Key) (n : ℕ) (connections : List Connection) : Type 0 where
  pub size : length connections ≡ n
  pub each : (k : ℕ) (d : Connection) → k < n → IsConnection delays (cut_row rows (key_at keys k).row) (slice_index_or connections k d)

-- a change takes a second at least
abbrev pub change_seconds_of : Option ℕ → ℕ
change_seconds_of None = 0
change_seconds_of (Some seconds) = max 1 seconds

abbrev pub change_by : Bool → CutRow → ℕ
change_by leaves r = if leaves then change_seconds_of r.change else 0

-- the longest change of the first n rows that leave a place, and 0 where none gives it
unfoldable pub longest : List CutRow → ℕ → ℕ → ℕ
longest rows zero p = 0
longest rows (suc n) p = max (longest rows n p) (change_by ((cut_row rows n).from == p) (cut_row rows n))

-- 120 where there is none
abbrev pub change_from : ℕ → ℕ
change_from seconds = if seconds == 0 then 120 else seconds

-- the network of a cut file and delays, which has no links
pub record IsNetwork (cut : Cut) (delays : DelayLists) (network : NetworkModel) : Type 0 where
  pub connections : AreConnections delays cut.rows cut.keys (length cut.keys) network.connections
  pub places : length network.change ≡ length cut.places
  pub change : (p : ℕ) → p < length cut.places → change_of network p ≡ change_from (longest cut.rows (length cut.rows) p)
  pub classes : network.classes ≡ delays.classes
  pub links : network.links ≡ []

-- a row as a connection whose numbers are those of its names; its class is given by its class column and its arrival, since a
-- cut file has no routes
pub record IsRide (names : NameLists) (delays : DelayLists) (r : Row) (c : Connection) : Type 0 where
  pub run : slice_get names.runs c.run.0 ≡ Some r.run
  pub from : slice_get names.places c.from.0 ≡ Some r.from
  pub to : slice_get names.places c.to.0 ≡ Some r.to
  pub dep : c.dep.0 ≡ r.dep
  pub arr : c.arr.0 ≡ r.arr
  pub step : c.step ≡ r.step
  pub class : c.class.0 ≡ class_for delays r.class None r.arr
  pub board : c.can_board ≡ r.board
  pub exit : c.can_exit ≡ r.exit

-- the largest change of the first n rows that leave a place, at least 1 where one gives it, and 0 where none does
unfoldable pub largest : List (List (List ℕ)) → List ℕ → ℕ → ℕ
largest t place zero = 0
largest t place (suc n) = max (largest t place n) (if bytes_eq (row t n).from place then change_seconds_of (row t n).change else 0)

-- the connections are the rows, runs and places are numbered as they first occur, and the classes are those of the delays;
-- a cut file has no links
pub record IsCutNetwork (t : List (List (List ℕ))) (delays : DelayLists) (network : NetworkModel) (names : NameLists) : Type 0 where
  pub runs : names.runs ≡ run_names t (row_count t)
  pub places : names.places ≡ place_names t (row_count t)
  pub size : count network ≡ row_count t
  pub rides : (i : ℕ) → i < count network → (k : ℕ) × (k < row_count t) × IsRide names delays (row t k) (connection network i)
  pub rows : (k : ℕ) → k < row_count t → (i : ℕ) × (i < count network) × IsRide names delays (row t k) (connection network i)
  pub changes : length network.change ≡ length names.places
  pub change : (p : ℕ) (place : List ℕ) → slice_get names.places p ≡ Some place → change_of network p ≡ change_from (largest t place (row_count t))
  pub classes : network.classes ≡ delays.classes
  pub links : network.links ≡ []

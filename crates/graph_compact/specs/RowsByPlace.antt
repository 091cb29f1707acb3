-- Rows gathered by place.
use Rattle.std.specs.{Prelude.{ℕ, ◌+◌, List, [], ◌∷◌, ◌==◌, if◌then◌else◌, map, slice_index_or}, Ordering.{nat_cmp, ordering_then}}
use Rattle.std.specs.{declared.cmp.Ordering.Ordering, BTreeSet.{BTreeSet, insert_key}}
use Rattle.plan_model.specs.{Network.NetworkModel, Unfold.end_of}
use Rattle.plan_graph.specs.{declared.{GraphRow.GraphRow, Ride.Ride, PlaceTable.PlaceTable}, Walked.leg_cmp}

-- by moment, and then by leg
abbrev pub row_cmp : GraphRow → GraphRow → Ordering
row_cmp a b = ordering_then (nat_cmp a.by.0 b.by.0) (leg_cmp a.leg b.leg)

-- with rows among rows in their order, each once
abbrev pub put_rows : List GraphRow → List GraphRow → List GraphRow
put_rows [] rows = rows
put_rows (row ∷ more) rows = put_rows more (insert_key row_cmp rows row)

-- with the rows after a ride, if it ends at the place
abbrev pub with_ride : NetworkModel → ℕ → Ride → List GraphRow → List GraphRow
with_ride network place r rows = if end_of network r.leg == place then put_rows r.after rows else rows

-- with the rows after all rides that end at the place
abbrev pub gathered_rows : NetworkModel → ℕ → List Ride → List GraphRow → List GraphRow
gathered_rows network place [] rows = rows
gathered_rows network place (r ∷ rides) rows = gathered_rows network place rides (with_ride network place r rows)

-- the rows of each place
abbrev pub lists_of : List (BTreeSet GraphRow) → List (List GraphRow)
lists_of tables = map (λ table. table.keys) tables

-- the rows of a place
abbrev pub rows_in : List (BTreeSet GraphRow) → ℕ → List GraphRow
rows_in tables place = slice_index_or (lists_of tables) place []

-- with a table, if it has rows
abbrev pub with_table : ℕ → List GraphRow → List PlaceTable → List PlaceTable
with_table place [] tables = tables
with_table place (row ∷ rows) tables = record { place = record { 0 = place }; rows = row ∷ rows } ∷ tables

-- the tables that have rows, from a place on
abbrev pub tables_of : ℕ → List (List GraphRow) → List PlaceTable
tables_of place [] = []
tables_of place (rows ∷ more) = with_table place rows (tables_of (place + 1) more)

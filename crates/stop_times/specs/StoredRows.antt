-- The rows of stop times as they are stored.
use Rattle.std.specs.Prelude.{Some, None, if◌then◌else◌}
use Rattle.stop_times.specs.declared.{rows.TimedRow.TimedRow, stored_row.StoredRow.TheInside.Inside}

-- the row with these fields, which has those of its stop where it is kept
abbrev pub row_of : Inside → TimedRow
row_of r = record {
  trip = r.trip;
  sequence = r.sequence;
  visit =
      if r.is_kept
      then Some (record { stop = r.stop; place = record { 0 = r.place }; arrival = r.arrival; departure = r.departure; can_board = r.can_board; can_exit = r.can_exit })
      else None;
}

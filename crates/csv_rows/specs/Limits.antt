-- How much is read at most.
use Rattle.std.specs.Prelude.{ℕ}
use Rattle.std.proofs.Common.{le_refl}
use Rattle.csv_rows.specs.declared.feed_tables.Table.{Table, TheVariants.{Stops, Routes, Trips, StopTimes, Frequencies, Calendar, CalendarDates, Transfers}}
use Rattle.csv_rows.specs.declared.limits.{Limits.Limits, TheConstants.{MOST_BYTES, MOST_STOPS, MOST_ROUTES, MOST_TRIPS, MOST_STOP_TIMES, MOST_FREQUENCIES}}
use Rattle.csv_rows.specs.declared.limits.TheConstants.{MOST_CALENDAR, MOST_CALENDAR_DATES, MOST_TRANSFERS, MOST_CUT_ROWS, MOST_CONNECTIONS, MOST_ENTRIES}

-- the standard limits
abbrev pub standard : Limits
standard = record {
  bytes = MOST_BYTES;
  stops = MOST_STOPS;
  routes = MOST_ROUTES;
  trips = MOST_TRIPS;
  stop_times = MOST_STOP_TIMES;
  frequencies = MOST_FREQUENCIES;
  calendar = MOST_CALENDAR;
  calendar_dates = MOST_CALENDAR_DATES;
  transfers = MOST_TRANSFERS;
  cut_rows = MOST_CUT_ROWS;
  connections = MOST_CONNECTIONS;
  entries = MOST_ENTRIES;
  bytes_in = le_refl MOST_BYTES;
  stops_in = le_refl MOST_STOPS;
  routes_in = le_refl MOST_ROUTES;
  trips_in = le_refl MOST_TRIPS;
  stop_times_in = le_refl MOST_STOP_TIMES;
  frequencies_in = le_refl MOST_FREQUENCIES;
  calendar_in = le_refl MOST_CALENDAR;
  calendar_dates_in = le_refl MOST_CALENDAR_DATES;
  transfers_in = le_refl MOST_TRANSFERS;
  cut_rows_in = le_refl MOST_CUT_ROWS;
  connections_in = le_refl MOST_CONNECTIONS;
  entries_in = le_refl MOST_ENTRIES;
}

-- the rows of a table
abbrev pub rows_of : Limits → Table → ℕ
rows_of limits Stops = limits.stops
rows_of limits Routes = limits.routes
rows_of limits Trips = limits.trips
rows_of limits StopTimes = limits.stop_times
rows_of limits Frequencies = limits.frequencies
rows_of limits Calendar = limits.calendar
rows_of limits CalendarDates = limits.calendar_dates
rows_of limits Transfers = limits.transfers

-- Tables and folders of which one has more rows or trips than the other.
use Rattle.std.specs.Prelude.{◌≡◌, ℕ, ℤ, ◌+◌, ◌<◌, ◌⊎◌, true, List, [], slice_index_or, Contains, ◌≤◌, None, Ok}
use Rattle.csv_rows.specs.{declared.{columns.Column.TheVariants.TripId, limits.Limits.Limits, feed_tables.Table.TheVariants.Transfers}, Tables.header}
use Rattle.csv_rows.specs.Tables.{row_count, field}
use Rattle.table_files.specs.Loading.{Records, loaded_rows, load_in}
use Rattle.feed_lists.specs.Trips.{trip_ids}
use Rattle.gtfs_tables.specs.Feeds.{Tables, tables_in}
use Rattle.service_days.specs.{Services.{ServiceParts, runs}, Calendars.{Calendars, calendars_in, is_active_service}}
use Rattle.file_ports.specs.Ports.{FileMap, file_at}
use Rattle.plan_model.specs.Network.{IsValid}
use Rattle.command_line.specs.Jobs.{JourneyModel}
use Rattle.journey_model.specs.declared.problem.Problem.{Problem}
use Rattle.journey_problem.specs.FeedProblems.{IsFeedProblem}

-- row i of the one table is row j of the other, under the same header
pub record IsSameRow (t u : Records) (i j : ℕ) : Type 0 where
  pub here : i < row_count t
  pub there : j < row_count u
  pub headers : header u ≡ header t
  pub fields : slice_index_or u (j + 1) [] ≡ slice_index_or t (i + 1) []

-- each row of the one table is one of the other, wherever it stands there
abbrev pub HasRows : (t u : Records) → Type 0
HasRows t u = (i : ℕ) → i < row_count t → (j : ℕ) × IsSameRow t u i j

-- and each row of the other is one of the one, or is of none of these trips
pub record AddsRows (trips : List (List ℕ)) (t u : Records) : Type 0 where
  pub each : HasRows t u
  pub others : (j : ℕ) → j < row_count u → ((i : ℕ) × IsSameRow t u i j) ⊎ ¬ Contains trips (field u TripId j)

-- the tables of a feed are among those of another, which has more trips, with their stop times and frequencies
pub record AreAmongTables (t u : Tables) : Type 0 where
  pub stops : u.stops ≡ t.stops
  pub routes : u.routes ≡ t.routes
  pub trips : HasRows t.trips u.trips
  pub stop_times : AddsRows (trip_ids t.trips) t.stop_times u.stop_times
  pub frequencies : AddsRows (trip_ids t.trips) (loaded_rows t.frequencies) (loaded_rows u.frequencies)

-- each service runs on each day on which it did
abbrev pub RunNoLess : (s t : ServiceParts) → Type 0
RunNoLess s t = (service : List ℕ) (day : ℤ) → runs s service day ≡ true → runs t service day ≡ true

-- the other folder has the rows of the one, and more trips with their stop times and frequencies; each service runs on the days on which it
-- ran, and the transfers are the same
pub record HasMoreRows (limits : Limits) (files : FileMap) (folder : List ℕ) (others : FileMap) (other : List ℕ) : Type 0 where
  pub tables : Tables
  pub more : Tables
  pub reads : tables_in files folder limits None ≡ Ok tables
  pub reads_more : tables_in others other limits None ≡ Ok more
  pub among : AreAmongTables tables more
  pub days : Calendars
  pub more_days : Calendars
  pub reads_days : calendars_in files folder limits None ≡ Ok days
  pub reads_more_days : calendars_in others other limits None ≡ Ok more_days
  pub active : (service : List ℕ) (day : ℤ) → is_active_service days.calendar days.dates service day ≡ true → is_active_service more_days.calendar more_days.dates service day ≡ true
  pub transfers : load_in others other limits None Transfers ≡ load_in files folder limits None Transfers

-- the same stops and start, and a delay file of the same bytes
pub record IsSameJourney (files others : FileMap) (j other : JourneyModel) : Type 0 where
  pub from : other.from ≡ j.from
  pub to : other.to ≡ j.to
  pub start : other.start ≡ j.start
  pub delays : file_at others other.delays ≡ file_at files j.delays

-- the journey over the folder with more rows, in a window of as many hours or more, has this problem, and that over the one without has that; both
-- networks are valid, as each is
pub record AreMoreAndLess (limits : Limits) (j i : JourneyModel) (p q : Problem) : Type 0 where
  pub files : FileMap
  pub others : FileMap
  pub folder : List ℕ
  pub other : List ℕ
  pub horizon : ℕ
  pub longer : ℕ
  pub rows : HasMoreRows limits files folder others other
  pub journey : IsSameJourney files others j i
  pub hours : horizon ≤ longer
  pub valid : IsValid p.timetable.network
  pub more_valid : IsValid q.timetable.network
  pub less : IsFeedProblem limits files folder horizon j p
  pub more : IsFeedProblem limits others other longer i q

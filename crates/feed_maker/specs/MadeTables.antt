-- The tables of the feed and the delay file of a made timetable, by the number of lines, and its files.
use Rattle.std.specs.{Prelude.{ℕ, ◌+◌, ◌%◌, List, ◌++◌, codes, decimal, flat_map, ◌≡◌, [], ◌∷◌}, List.range_with_len}
use Rattle.feed_maker.specs.Names.{seconds_at, hub_name, own_name, route_name, trip_name, name_at, time_text}
use Rattle.file_ports.specs.Ports.{FileMap, file_at}

-- the pieces of the numbers below `count`, one after another
unfoldable pub joined : (ℕ → List ℕ) → ℕ → List ℕ
joined piece count = flat_map piece (range_with_len 0 count)

-- the ten hubs, and then the 19 stops of each line's own
abbrev pub hub_row : ℕ → List ℕ
hub_row hub = hub_name hub ++ codes "\n"

abbrev pub own_row : ℕ → ℕ → List ℕ
own_row line k = own_name line (k + 1) ++ codes "\n"

unfoldable pub own_rows : ℕ → List ℕ
own_rows line = joined (own_row line) 19

unfoldable pub stops_text : ℕ → List ℕ
stops_text lines = codes "stop_id\n" ++ joined hub_row 10 ++ joined own_rows lines

-- a route for each line, of one of four types
abbrev pub route_row : ℕ → List ℕ
route_row line = route_name line ++ (codes "," ++ (decimal (line % 4) ++ codes "\n"))

unfoldable pub routes_text : ℕ → List ℕ
routes_text lines = codes "route_id,route_type\n" ++ joined route_row lines

-- the 96 runs of each line
abbrev pub trip_row : ℕ → ℕ → List ℕ
trip_row line run = route_name line ++ (codes ",D," ++ (trip_name line run ++ codes "\n"))

unfoldable pub trip_rows : ℕ → List ℕ
trip_rows line = joined (trip_row line) 96

unfoldable pub trips_text : ℕ → List ℕ
trips_text lines = codes "route_id,service_id,trip_id\n" ++ joined trip_rows lines

-- each run at the 21 places of its line, where it arrives and departs at once
unfoldable pub stop_time_row : ℕ → ℕ → ℕ → List ℕ
stop_time_row line run place =
    let time = time_text (seconds_at line run place) in
    trip_name line run ++ (codes "," ++ (time ++ (codes "," ++ (time ++ (codes "," ++ (name_at line place ++ (codes "," ++ (decimal (place + 1) ++ codes "\n"))))))))

unfoldable pub run_rows : ℕ → ℕ → List ℕ
run_rows line run = joined (stop_time_row line run) 21

unfoldable pub line_rows : ℕ → List ℕ
line_rows line = joined (run_rows line) 96

unfoldable pub stop_times_text : ℕ → List ℕ
stop_times_text lines = codes "trip_id,arrival_time,departure_time,stop_id,stop_sequence\n" ++ joined line_rows lines

-- one service, on each day of 2024
unfoldable pub calendar_text : List ℕ
calendar_text =
    codes "service_id,monday,tuesday,wednesday,thursday,friday,saturday,sunday,start_date,end_date\nD,1,1,1,1,1,1,1,20240101,20241231\n"

-- delays of any route, and of the routes of types 1 and 2
unfoldable pub delays_text : List ℕ
delays_text =
    codes "class,delay,weight\n*,0,8000\n*,300,1500\n*,900,500\n1,0,9000\n1,60,1000\n2,0,7000\n2,120,2000\n2,600,1000\n"

-- the files of this number of lines by their paths
unfoldable pub made : ℕ → FileMap
made lines =
    (codes "feed/stops.txt", stops_text lines)
    ∷ (codes "feed/routes.txt", routes_text lines)
    ∷ (codes "feed/trips.txt", trips_text lines)
    ∷ (codes "feed/stop_times.txt", stop_times_text lines)
    ∷ (codes "feed/calendar.txt", calendar_text)
    ∷ (codes "delays.csv", delays_text)
    ∷ []

-- all of them but the stop times
unfoldable pub other_files : ℕ → FileMap
other_files lines =
    (codes "feed/stops.txt", stops_text lines)
    ∷ (codes "feed/routes.txt", routes_text lines)
    ∷ (codes "feed/trips.txt", trips_text lines)
    ∷ (codes "feed/calendar.txt", calendar_text)
    ∷ (codes "delays.csv", delays_text)
    ∷ []

-- both have the same files, each with the same bytes
abbrev pub SameFolder : FileMap → FileMap → Type 0
SameFolder folder other = (path : List ℕ) → file_at other path ≡ file_at folder path

-- Lines between ten hubs, how hubs, stops, routes, trips and times are written, and the pieces that rows of stop times have in common.
use Rattle.std.specs.Prelude.{ℕ, ◌+◌, ◌*◌, ◌/◌, ◌%◌, List, ◌++◌, codes, decimal, nat_eq, if◌then◌else◌, ◌≡◌, ◌<◌, length, slice_get, IfSome}
use Rattle.feed_maker.specs.declared.names.Stop.{Stop, TheVariants.{Hub, Own}}
use Rattle.arrayvec.specs.ArrayString.{ArrayString}

-- the hubs where a line starts and ends
abbrev pub first_hub : ℕ → ℕ
first_hub line = line % 10

abbrev pub last_hub : ℕ → ℕ
last_hub line = (line + 1 + (line / 10) % 3) % 10

-- seconds from one place of a line to the next
unfoldable pub hop_of : ℕ → ℕ
hop_of line = 60 + 5 * (line % 7)

-- seconds of the service day at which a run is at a place of its line: a line has a run every 15 minutes
unfoldable pub seconds_at : ℕ → ℕ → ℕ → ℕ
seconds_at line run place = 900 * run + (35 * line) % 900 + place * hop_of line

abbrev pub hub_name : ℕ → List ℕ
hub_name hub = codes "H" ++ decimal hub

-- a stop of a line's own
abbrev pub own_name : ℕ → ℕ → List ℕ
own_name line place = codes "L" ++ (decimal line ++ (codes "_" ++ decimal place))

abbrev pub route_name : ℕ → List ℕ
route_name line = codes "R" ++ decimal line

abbrev pub trip_name : ℕ → ℕ → List ℕ
trip_name line run = codes "T" ++ (decimal line ++ (codes "_" ++ decimal run))

-- the stop at a place of a line
unfoldable pub name_at : ℕ → ℕ → List ℕ
name_at line place =
    if nat_eq place 0 then hub_name (first_hub line)
    else (if nat_eq place 20 then hub_name (last_hub line) else own_name line place)

abbrev pub stop_name : Stop → List ℕ
stop_name (Hub hub) = hub_name hub
stop_name (Own line place) = own_name line place

-- the tens and the ones of a number below 100
abbrev pub two_digits : ℕ → List ℕ
two_digits number = decimal (number / 10) ++ decimal (number % 10)

-- HH:MM:SS
unfoldable pub time_text : ℕ → List ℕ
time_text seconds =
    two_digits (seconds / 3600) ++ (codes ":" ++ (two_digits (seconds / 60 % 60) ++ (codes ":" ++ two_digits (seconds % 60))))

-- the front of the rows of a run
abbrev pub run_piece : ℕ → ℕ → List ℕ
run_piece line run = trip_name line run ++ codes ","

-- the end of the rows at a place of a line
abbrev pub place_piece : ℕ → ℕ → List ℕ
place_piece line place = name_at line place ++ (codes "," ++ (decimal (place + 1) ++ codes "\n"))

-- the ends at the 21 places of a line
pub record ArePlacePieces (line : ℕ) (ends : List ArrayString) : Type 0 where
  pub size : length ends ≡ 21
  pub each : (place : ℕ) → place < length ends → IfSome (slice_get ends place) (λ end. end.bytes ≡ place_piece line place)

use Rattle.feed_maker.proofs.{Common.{[], ◌∷◌, ◌∙◌, codes, FileMap, folder_of, stops_text, routes_text, trips_text, calendar_text, delays_text, other_files}, FolderLemmas.{folder_none, folder_more}}
use Rattle.feed_maker.proofs.other_files.Goals as goal

pub returns-clause-files : goal.returns-clause-files
unfolding other_files
returns-clause-files c =
    let new = folder_none (folder_of c.new-files.result) c.new-files.ensures.files in
    let delays_on = folder_more [] (folder_of c.new-files.result) (folder_of c.add.new.self)
    (codes "delays.csv") c.as_bytes.result.now delays_text new (c.as_bytes.ensures.value ∙ c.delays.ensures) c.in_ok-add.ensures.ok in
    let with_delays : FileMap = (codes "delays.csv", delays_text) ∷ [] in
    let calendar_on = folder_more with_delays (folder_of c.add.new.self) (folder_of c.add-2.new.self)
    (codes "feed/calendar.txt") c.as_bytes-2.result.now calendar_text delays_on (c.as_bytes-2.ensures.value ∙ c.calendar.ensures) c.in_ok-add-2.ensures.ok in
    let with_calendar : FileMap = (codes "feed/calendar.txt", calendar_text) ∷ with_delays in
    let trips_on = folder_more with_calendar (folder_of c.add-2.new.self) (folder_of c.add-3.new.self)
    (codes "feed/trips.txt") c.as_bytes-3.result.now (trips_text c.args.lines.count) calendar_on
    (c.as_bytes-3.ensures.value ∙ c.in_ok-trips.ensures) c.in_ok-add-3.ensures.ok in
    let with_trips : FileMap = (codes "feed/trips.txt", trips_text c.args.lines.count) ∷ with_calendar in
    let routes_on = folder_more with_trips (folder_of c.add-3.new.self) (folder_of c.add-4.new.self) (codes "feed/routes.txt") c.as_bytes-4.result.now
    (routes_text c.args.lines.count) trips_on (c.as_bytes-4.ensures.value ∙ c.in_ok-routes.ensures) c.in_ok-add-4.ensures.ok in
    let with_routes : FileMap = (codes "feed/routes.txt", routes_text c.args.lines.count) ∷ with_trips in
    folder_more with_routes (folder_of c.add-4.new.self) (folder_of c.add-5.new.self) (codes "feed/stops.txt") c.as_bytes-5.result.now
    (stops_text c.args.lines.count) routes_on (c.as_bytes-5.ensures.value ∙ c.in_ok-stops.ensures) c.in_ok-add-5.ensures.ok

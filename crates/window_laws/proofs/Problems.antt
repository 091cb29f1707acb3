-- A journey over a folder with more trips.
use Rattle.std.proofs.Common.{◌≡◌, ℕ, List, Option, Some, unwrap_or, ap₂, subst, arith}
use Rattle.plan_model.specs.{declared.model.Moment.Moment, Strategy.IsLeastWorst}
use Rattle.csv_rows.specs.declared.limits.Limits.{Limits}
use Rattle.gtfs_tables.specs.Feeds.{FeedParts}
use Rattle.change_times.specs.Transfers.{place_of_stop}
use Rattle.delay_table.specs.DelayLists.{DelayLists}
use Rattle.command_line.specs.Jobs.{JourneyModel, source_or_target}
use Rattle.journey_model.specs.declared.problem.Problem.{Problem}
use Rattle.journey_problem.proofs.OneCutProblem.{delays_of_one}
use Rattle.service_laws.specs.{Changed.own, Embeds.{EmbedsAlike, IsNoLaterThan, IsSafeToo, IsAsGood}}
use Rattle.window_laws.specs.{MoreTrips.{HasAllOf, Timetable, IsPartOf, IsNetworkOf}, MoreFiles.AreMoreAndLess}
use Rattle.window_laws.proofs.{Folders.{has_all, stops_same, own_places}, Networks.{more_alike, as_good, no_later}}

-- a stop has its place
place_same : (f g : FeedParts) → g.stop_ids ≡ f.stop_ids → g.places ≡ f.places → (id other : List ℕ) → other ≡ id → (a b : ℕ) → place_of_stop f id ≡ Some a → place_of_stop g other ≡ Some b
    → b ≡ a
place_same f g stops places id other named a b is are = grind arith

module _ (limits : Limits) (j i : JourneyModel) (p q : Problem) (both : AreMoreAndLess limits j i p q) where
  abbrev less : Timetable
  less = record { parts = both.less.parts; start = j.start; horizon = both.horizon }

  abbrev more : Timetable
  more = record { parts = both.more.parts; start = i.start; horizon = both.longer }

  all : HasAllOf both.less.parts both.more.parts
  all = has_all limits both.files both.others both.folder both.other both.rows both.less.parts both.more.parts both.less.is_folder both.more.is_folder

  part : IsPartOf less more
  part = grind (arith, all)

  delays_same : both.more.lists ≡ both.less.lists
  delays_same = grind (arith, delays_of_one)

  here : IsNetworkOf less both.less.lists p.timetable.network
  here = record { names = p.timetable.names; valid = both.valid; is = both.less.timetable.is_network }

  there : IsNetworkOf more both.less.lists q.timetable.network
  there = subst (λ (d : DelayLists). IsNetworkOf more d q.timetable.network) delays_same (record { names = q.timetable.names; valid = both.more_valid; is = both.more.timetable.is_network })

  abbrev stops : both.more.parts.feed.stop_ids ≡ both.less.parts.feed.stop_ids
  stops = stops_same limits both.files both.others both.folder both.other both.rows both.less.parts both.more.parts both.less.is_folder both.more.is_folder

  abbrev places : both.more.parts.feed.places ≡ both.less.parts.feed.places
  places = own_places limits both.files both.others both.folder both.other both.rows both.less.parts both.more.parts both.less.is_folder both.more.is_folder

  pub source_same : q.source.0 ≡ p.source.0
  source_same =
      let one : source_or_target i ≡ source_or_target j = ap₂ (λ (from : Option (List ℕ)) (to : List ℕ). unwrap_or from to) both.journey.from both.journey.to in
      place_same both.less.parts.feed both.more.parts.feed stops places (source_or_target j) (source_or_target i) one p.source.0 q.source.0 both.less.timetable.source both.more.timetable.source

  pub target_same : q.target.0 ≡ p.target.0
  target_same = place_same both.less.parts.feed both.more.parts.feed stops places j.to i.to both.journey.to p.target.0 q.target.0 both.less.timetable.target both.more.timetable.target

  pub rows_alike : (image : ℕ → ℕ) × EmbedsAlike p.timetable.network q.timetable.network image own
  rows_alike = more_alike less more part both.less.lists p.timetable.network q.timetable.network here there

  pub rows_as_good : IsSafeToo IsAsGood (λ a b. a ≡ b) p.timetable.network q.timetable.network own
  rows_as_good = as_good less more part both.less.lists p.timetable.network q.timetable.network here there

  pub rows_no_later : (least other : Option Moment) → IsLeastWorst p.timetable.network p.source.0 p.target.0 j.start least → IsLeastWorst q.timetable.network q.source.0 q.target.0 i.start other
      → IsNoLaterThan other least
  rows_no_later least other is are =
      no_later less more part both.less.lists p.timetable.network q.timetable.network here there p.source.0 p.target.0 j.start i.start least other (omega (arith, both.journey.start)) is
      (subst (λ (s : ℕ). IsLeastWorst q.timetable.network s p.target.0 i.start other) source_same (subst (λ (t : ℕ). IsLeastWorst q.timetable.network q.source.0 t i.start other) target_same are))

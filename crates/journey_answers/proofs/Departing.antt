-- When one can leave: the latest moment, and that some strategy is safe.
use Rattle.journey_answers.proofs.Common.{◌≡◌, ℕ, zero, ◌<◌, ◌≤◌, List, [], ◌∷◌, length, Option, Some, true, refl, arith, ◌≢◌, nat_le, Moment, NetworkModel, Tree, Done, IsSafeFromStart}
use Rattle.journey_answers.proofs.Common.{IsNoneSafe, DepartureRow, Problem, Query, AreByRules}
use Rattle.journey_answers.specs.Departures.{SafeOf, AreDepartures, HasSafeFor}
use Rattle.std.proofs.lemmas.Bool.Decides.{nat_tests}
use Rattle.departure_table.specs.Departures.{SafeFrom, IsGreatestMoment, IsTable}

module _ (n : NetworkModel) (source target deadline : ℕ) where
  -- a traveller who is at the target has arrived
  pub arrived : source ≡ target → (tree : Tree) (moment : ℕ) → IsSafeFromStart n target (Some deadline) tree source moment → moment ≤ deadline
  arrived same tree moment safe = grind arith

module _ (p : Problem) (q : Query) where
  -- at the target one is safe up to the deadline
  pub latest_at_once : q.source.0 ≡ q.target.0 → q.start.0 ≤ q.deadline.0 → IsGreatestMoment (SafeOf p q) q.start.0 (Some q.deadline)
  latest_at_once same early = (early, (Done q.deadline.0, (refl, same, omega arith)), too_late)
    where
      too_late : (moment : ℕ) → q.deadline.0 < moment → (tree : Tree) → SafeOf p q moment tree → ⊥
      too_late moment later tree safe =
          grind arith

  -- and the way to do it is to be there
  pub safe_at_once : q.source.0 ≡ q.target.0 → q.start.0 ≤ q.deadline.0 → HasSafeFor p q
  safe_at_once same early = (Done q.start.0, (refl, same, early))

  -- where no departure is found nothing is safe
  pub none_leaves : (last : ℕ) (rows : List DepartureRow) → q.start.0 ≤ last → IsTable p.timetable.network (SafeOf p q) q.start.0 last rows → length rows ≡ 0 → IsNoneSafe p.timetable.network q
  none_leaves last [] early is none = is.answers q.start.0 (omega arith) early
  none_leaves last (row ∷ rows) early is none = absurd (omega (arith, none))

  -- and where one is something is
  pub some_leaves : (last : ℕ) (rows : List DepartureRow) → q.start.0 ≤ last → IsTable p.timetable.network (SafeOf p q) q.start.0 last rows → length rows ≢ 0 → HasSafeFor p q
  some_leaves last [] early is some = absurd (some refl)
  some_leaves last (row ∷ rows) early is some =
      let by = is.from_first zero row (omega arith) in
      let test : nat_le q.start.0 row.by.0 ≡ true = grind (arith, nat_tests) in
      grind arith

  module _ (own : Query) (target : own.target ≡ q.target) (deadline : own.deadline ≡ q.deadline) where
    -- what is said of a query with this target and this deadline is said of the query
    pub same_table : (first last : ℕ) (rows : List DepartureRow) → IsTable p.timetable.network (SafeFrom p.timetable.network q.source.0 own) first last rows → IsTable p.timetable.network (SafeOf p q) first last rows
    same_table first last rows is = grind arith

    pub same_greatest : (first : ℕ) (result : Option Moment) → IsGreatestMoment (SafeFrom p.timetable.network q.source.0 own) first result → IsGreatestMoment (SafeOf p q) first result
    same_greatest first result is = grind arith

  -- departures between two places
  pub departures_away : (last : ℕ) (rows : List DepartureRow) → q.source.0 ≢ q.target.0 → IsTable p.timetable.network (SafeOf p q) q.start.0 last rows
      → AreByRules p q last rows → AreDepartures p q last rows
  departures_away last rows differ is ruled = record { at_once = λ same. absurd (differ same); table = λ other. is; by_rules = λ other. ruled }

  -- and from a place to itself
  pub departures_at_once : (last : ℕ) (rows : List DepartureRow) → rows ≡ [] → q.source.0 ≡ q.target.0 → AreDepartures p q last rows
  departures_at_once last rows none same = record { at_once = λ other. none; table = λ differ. absurd (differ same); by_rules = λ differ. absurd (differ same) }

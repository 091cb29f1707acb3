-- Two runs, of which the second is over a feed that offers no less, or over one of the same rows in another order.
use Rattle.std.specs.Prelude.{◌≡◌, ℕ, ◌≤◌, List, Option, None, Some, Ok}
use Rattle.file_ports.specs.Ports.{FileMap}
use Rattle.csv_rows.specs.declared.limits.Limits.{Limits}
use Rattle.interval_fixed.specs.Interval.{Interval}
use Rattle.plan_model.specs.declared.model.{Moment.Moment, Query.Query}
use Rattle.command_line.specs.Jobs.{FeedFolder, JourneyModel, AskModel, Ask, Plan, Latest, job_of}
use Rattle.journey_model.specs.declared.problem.Problem.{Problem}
use Rattle.journey_problem.specs.Problems.{IsProblem}
use Rattle.window_laws.specs.MoreFiles.{HasMoreRows, IsSameJourney}
use Rattle.run_laws.specs.{Runs.{RunModel, IsUntroubled}, TwoRuns.{OrStatus9, IsBySafety}}

-- the second journey is the first over a folder that has its rows and more trips, in a window of as many hours or more
pub record HasMoreService (limits : Limits) (files others : FileMap) (j i : JourneyModel) : Type 0 where
  pub folder : List ℕ
  pub other : List ℕ
  pub horizon : ℕ
  pub longer : ℕ
  pub is_feed : j.timetable ≡ FeedFolder folder horizon
  pub is_more : i.timetable ≡ FeedFolder other longer
  pub rows : HasMoreRows limits files folder others other
  pub journey : IsSameJourney files others j i
  pub hours : horizon ≤ longer

-- two untroubled runs, of which the first asks this about a journey, and ends without a fault, and the second that about one with more service, over
-- files that have a problem
pub record AskWithMore (limits : Limits) (files others : FileMap) (j i : JourneyModel) (a b : AskModel) (r s : RunModel) : Type 0 where
  pub first : IsUntroubled files r
  pub second : IsUntroubled others s
  pub first_asks : job_of r.words ≡ Ok (Ask j a)
  pub second_asks : job_of s.words ≡ Ok (Ask i b)
  pub more : HasMoreService limits files others j i
  pub no_fault : r.report.fault ≡ None
  pub problem : Problem
  pub is_problem : IsProblem limits others i problem

-- the second finds a moment that is no later
abbrev pub FindsNoLater : (first second : Option Moment) → Type 0
FindsNoLater first second = (moment other : Moment) × (first ≡ Some moment) × (second ≡ Some other) × (other.0 ≤ moment.0)

-- what is asked by safe strategies has an answer over more service too, and the least worst arrival is no later
abbrev pub MoreIsNoLater : Limits → RunModel → RunModel → Type 0
MoreIsNoLater limits r s =
    (files others : FileMap) (j i : JourneyModel) (alpha beta : ℕ) (a b : AskModel) → AskWithMore limits files others j i a b r s
    → IsBySafety alpha a → IsBySafety beta b → OrStatus9 s ((s.report.status.0 ≡ 0) × FindsNoLater r.report.worst s.report.worst)

-- by the same deadline one can leave as late at least
abbrev pub MoreLeavesNoSooner : Limits → RunModel → RunModel → Type 0
MoreLeavesNoSooner limits r s =
    (files others : FileMap) (j i : JourneyModel) (until : ℕ) → AskWithMore limits files others j i (Latest until) (Latest until) r s
    → OrStatus9 s ((s.report.status.0 ≡ 0) × FindsNoLater s.report.latest r.report.latest)

-- by a deadline that is no earlier the upper bound of a plan is no later
abbrev pub MorePlansNoWorse : Limits → RunModel → RunModel → Type 0
MorePlansNoWorse limits r s =
    (files others : FileMap) (j i : JourneyModel) (alpha beta : ℕ) (query other : Query) (bounds later : Interval)
    → AskWithMore limits files others j i (Plan alpha) (Plan beta) r s → s.report.fault ≡ None → r.report.query ≡ Some query → s.report.query ≡ Some other
    → r.report.bounds ≡ Some bounds → s.report.bounds ≡ Some later → query.deadline.0 ≤ other.deadline.0 → later.hi ≤ bounds.hi

-- each of two journeys has the service of the other, and both runs end without a fault
pub record AskReordered (limits : Limits) (files others : FileMap) (j i : JourneyModel) (a b : AskModel) (r s : RunModel) : Type 0 where
  pub more : AskWithMore limits files others j i a b r s
  pub back : HasMoreService limits others files i j
  pub no_fault : s.report.fault ≡ None

-- what is asked by safe strategies finds one least worst arrival
abbrev pub OrderKeepsWorst : Limits → RunModel → RunModel → Type 0
OrderKeepsWorst limits r s =
    (files others : FileMap) (j i : JourneyModel) (alpha beta : ℕ) (a b : AskModel) → AskReordered limits files others j i a b r s
    → IsBySafety alpha a → IsBySafety beta b → r.report.worst ≡ s.report.worst

-- and two plans by one percentage have one upper bound
abbrev pub OrderKeepsPlans : Limits → RunModel → RunModel → Type 0
OrderKeepsPlans limits r s =
    (files others : FileMap) (j i : JourneyModel) (alpha : ℕ) (bounds later : Interval) → AskReordered limits files others j i (Plan alpha) (Plan alpha) r s
    → r.report.bounds ≡ Some bounds → s.report.bounds ≡ Some later → later.hi ≡ bounds.hi

-- A journey over the same files has one problem, and the timetable does not depend on where it begins.
use Rattle.journey_problem.proofs.{Common.{arith, ◌≡◌, Option, List, ℕ, FileMap, Limits, SourceModel, JourneyModel, Problem, IsProblem, IsProblemOver}, OneCutProblem.one_cut_problem}
use Rattle.journey_problem.proofs.{OneCutProblem.{one_cut_network, one_cut_names, one_cut_stop}, OneFeedProblem.{one_feed_problem, one_feed_timetable, one_feed_stop}, SameProblem.same_timetable}

over : (limits : Limits) (files : FileMap) (timetable : SourceModel) (j : JourneyModel) (p q : _) → IsProblemOver limits files timetable j p → IsProblemOver limits files timetable j q → p ≡ q
over limits files timetable j p q a b = grind (arith, one_cut_problem, one_feed_problem)

pub one_problem : (limits : Limits) (files : FileMap) (j : JourneyModel) (p q : _) → IsProblem limits files j p → IsProblem limits files j q → p ≡ q
one_problem limits files j p q a b = over limits files j.timetable j p q a b

from_over : (limits : Limits) (files : FileMap) (timetable : SourceModel) (j : JourneyModel) (from : Option (List ℕ)) (p q : Problem)
    → IsProblemOver limits files timetable j p → IsProblemOver limits files timetable (record j { from = from }) q → (p.timetable ≡ q.timetable) × (p.target ≡ q.target)
from_over limits files timetable j from p q a b = grind (arith, one_cut_stop, same_timetable, one_cut_network, one_cut_names, one_feed_stop, one_feed_timetable)

pub one_timetable : (limits : Limits) (files : FileMap) (j : JourneyModel) (from : Option (List ℕ)) (p q : Problem)
    → IsProblem limits files j p → IsProblem limits files (record j { from = from }) q → (p.timetable ≡ q.timetable) × (p.target ≡ q.target)
one_timetable limits files j from p q a b = from_over limits files j.timetable j from p q a b

use Rattle.journey_problem.proofs.Common.{◌≡◌, Result, ap, sym, subst, IfOk, SourceModel, JourneyModel, source_shown, Fault, Problem, HasTimetable}
use Rattle.command_line.specs.declared.job.Source.{Source}
use Rattle.journey_problem.proofs.journey.problem_of.Goals as goal

sound : (timetable : SourceModel) (j : JourneyModel) (r : Result Problem Fault) → j.timetable ≡ timetable → IfOk r (HasTimetable timetable j) → IfOk r (HasTimetable j.timetable j)
sound timetable j r is has = subst (λ (t : SourceModel). IfOk r (HasTimetable t j)) (sym is) has

pub returns-in-Cut-clause-problem : goal.returns-in-Cut-clause-problem
returns-in-Cut-clause-problem g c = let is = ap (λ (t : Source). source_shown t) c.in-Cut.is in rw is (rw is at c.cut_problem.ensures.problem)

pub returns-in-Cut-clause-fault : goal.returns-in-Cut-clause-fault
returns-in-Cut-clause-fault g c = let is = ap (λ (t : Source). source_shown t) c.in-Cut.is in rw is (rw is at c.cut_problem.ensures.fault)

pub returns-in-Cut-clause-early : goal.returns-in-Cut-clause-early
returns-in-Cut-clause-early g c = rw (ap (λ (t : Source). source_shown t) c.in-Cut.is) c.cut_problem.ensures.early

pub returns-in-Cut-clause-causes : goal.returns-in-Cut-clause-causes
returns-in-Cut-clause-causes g c = λ own. let is = ap (λ (t : Source). source_shown t) c.in-Cut.is in rw is (rw is at (c.cut_problem.ensures.causes own))

pub returns-in-Cut-clause-sound : goal.returns-in-Cut-clause-sound
returns-in-Cut-clause-sound g c = sound _ _ c.cut_problem.result (ap (λ (t : Source). source_shown t) c.in-Cut.is) c.cut_problem.ensures.timetable

pub returns-in-Feed-clause-problem : goal.returns-in-Feed-clause-problem
returns-in-Feed-clause-problem g c = let is = ap (λ (t : Source). source_shown t) c.in-Feed.is in rw is (rw is at c.feed_problem.ensures.problem)

pub returns-in-Feed-clause-fault : goal.returns-in-Feed-clause-fault
returns-in-Feed-clause-fault g c = rw (ap (λ (t : Source). source_shown t) c.in-Feed.is) c.feed_problem.ensures.fault

pub returns-in-Feed-clause-early : goal.returns-in-Feed-clause-early
returns-in-Feed-clause-early g c = rw (ap (λ (t : Source). source_shown t) c.in-Feed.is) c.feed_problem.ensures.early

pub returns-in-Feed-clause-causes : goal.returns-in-Feed-clause-causes
returns-in-Feed-clause-causes g c = λ own. let is = ap (λ (t : Source). source_shown t) c.in-Feed.is in rw is (rw is at (c.feed_problem.ensures.causes own))

pub returns-in-Feed-clause-sound : goal.returns-in-Feed-clause-sound
returns-in-Feed-clause-sound g c = sound _ _ c.feed_problem.result (ap (λ (t : Source). source_shown t) c.in-Feed.is) c.feed_problem.ensures.timetable

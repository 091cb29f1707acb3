-- What a run over more service finds, beside one over less.
use Rattle.run_laws.proofs.Common.{◌≡◌, ℕ, ◌<◌, ◌≤◌, arith, inl, inr, refl, sym, ap, subst, ◌∙◌, cases_lt, List, Option, None, Some, NetworkModel, FileMap, Limits, Moment, Query, Tree, IsLeastWorst}
use Rattle.run_laws.proofs.Common.{IsSafeFromStart, JourneyModel, SourceModel, AskModel, Plan, Latest, HasOneProblem, Findings, findings_of, AnswersAsk, EndsAsk, EndsByLatest, query_until}
use Rattle.run_laws.proofs.{Common.{unfold_plan, RunModel, IsRunWithin}, Agreeing.{Answered, answered, ends_so, no_fault, or_nine, one_some}, BySafety.{Asked, asked_by, by_safety}, Queries.worst_is}
use Rattle.run_laws.specs.{MoreService.{AskWithMore, FindsNoLater, MoreIsNoLater, MoreLeavesNoSooner, MorePlansNoWorse}, TwoRuns.{OrStatus9, IsBySafety}}
use Rattle.journey_problem.specs.Problems.{IsProblemOver}
use Rattle.meat_engine.specs.Ends.{EndsBySafety, HasSafe}
use Rattle.service_laws.proofs.{Changes.alike_no_later, Upper.plan_no_worse}
use Rattle.service_laws.specs.Changed.{own}
use Rattle.window_laws.proofs.Problems.{source_same, target_same, rows_alike, rows_as_good, rows_no_later}
use Rattle.window_laws.specs.MoreFiles.{AreMoreAndLess}

-- safe from a place to another, by whichever names
same_ends : (n : NetworkModel) (by : Option ℕ) (tree : Tree) (source target from to moment : ℕ) → source ≡ from → target ≡ to → IsSafeFromStart n to by tree from moment
    → IsSafeFromStart n target by tree source moment
same_ends n by tree source target from to moment is are safe = rw (is, are) safe

module _ (limits : Limits) (r s : RunModel) (first : IsRunWithin limits r) (second : IsRunWithin limits s) (one_problem : HasOneProblem) where
  module _ (files others : FileMap) (j i : JourneyModel) (a b : AskModel) (asks : AskWithMore limits files others j i a b r s) where
    less : Answered limits files r first asks.first j a asks.first_asks
    less = answered limits files r first asks.first j a asks.first_asks asks.no_fault

    both : AreMoreAndLess limits j i less.p asks.problem
    both = record {
      files = files;
      others = others;
      folder = asks.more.folder;
      other = asks.more.other;
      horizon = asks.more.horizon;
      longer = asks.more.longer;
      rows = asks.more.rows;
      journey = asks.more.journey;
      hours = asks.more.hours;
      valid = less.p.timetable.valid;
      more_valid = asks.problem.timetable.valid;
      less = subst (λ (t : SourceModel). IsProblemOver limits files t j less.p) asks.more.is_feed less.is_problem;
      more = subst (λ (t : SourceModel). IsProblemOver limits others t i asks.problem) asks.more.is_more asks.is_problem;
    }

    -- what the second answers, over its problem
    record Answers : Type 0 where
      text : List ℕ
      answers : AnswersAsk (Some others) limits i.start asks.problem b (findings_of s.report) text

    more_answers : s.report.fault ≡ None → Answers
    more_answers none = grind (arith, answered)

    none_if_zero : s.report.status.0 ≡ 0 → s.report.fault ≡ None
    none_if_zero = no_fault limits others s second asks.second

    ends : OrStatus9 s (EndsAsk limits others i.start asks.problem b s.report.status.0)
    ends = ends_so limits others s second asks.second i b asks.second_asks asks.problem asks.is_problem

    -- the search over more service finds a strategy
    safe_too : (w : Moment) → IsLeastWorst less.p.timetable.network less.p.source.0 less.p.target.0 j.start (Some w)
        → HasSafe asks.problem.timetable.network asks.problem.source.0 asks.problem.target.0 i.start
    safe_too w least =
        let (tree, reaches, worst) = least.0 in
        let (other, safe, good) = (rows_as_good limits j i less.p asks.problem both).from_start less.p.target.0 None tree less.p.source.0 j.start i.start asks.more.journey.start reaches in
        let p = asks.problem in
        (other, same_ends p.timetable.network None other p.source.0 p.target.0 less.p.source.0 less.p.target.0 i.start (source_same limits j i less.p p both) (target_same limits j i less.p p both) safe)

    -- and one can leave as late
    leaves_too : (until moment : ℕ) (tree : Tree) → IsSafeFromStart less.p.timetable.network less.p.target.0 (Some until) tree less.p.source.0 moment
        → (other : Tree) × IsSafeFromStart asks.problem.timetable.network asks.problem.target.0 (Some until) other asks.problem.source.0 moment
    leaves_too until moment tree safe =
        let (other, too, good) = (rows_as_good limits j i less.p asks.problem both).from_start less.p.target.0 (Some until) tree less.p.source.0 moment moment refl safe in
        let p = asks.problem in
        (other, same_ends p.timetable.network (Some until) other p.source.0 p.target.0 less.p.source.0 less.p.target.0 moment (source_same limits j i less.p p both) (target_same limits j i less.p p both) too)

  -- the least worst arrival, by two questions that are asked by safe strategies
  module _ (files others : FileMap) (j i : JourneyModel) (alpha beta : ℕ) (a b : AskModel) (asks : AskWithMore limits files others j i a b r s) (one : IsBySafety alpha a) (two : IsBySafety beta b) where
    abbrev few : Answered limits files r first asks.first j a asks.first_asks
    few = less files others j i a b asks

    was : Asked few.p j.start limits files alpha (findings_of r.report)
    was = asked_by few.p j.start limits files alpha a (findings_of r.report) few.text one few.answers

    least : IsLeastWorst few.p.timetable.network few.p.source.0 few.p.target.0 j.start (Some was.w)
    least = worst_is few.p j.start alpha was.q was.w was.asked

    finds : s.report.fault ≡ None → FindsNoLater r.report.worst s.report.worst
    finds none =
        let found = more_answers files others j i a b asks none in
        let is = asked_by asks.problem i.start limits others beta b (findings_of s.report) found.text two found.answers in
        (was.w, is.w, was.worst, is.worst, rows_no_later limits j i few.p asks.problem (both files others j i a b asks) (Some was.w) (Some is.w) least (worst_is asks.problem i.start beta is.q is.w is.asked))

    by_ending : EndsBySafety asks.problem i.start s.report.status.0 → (s.report.status.0 ≡ 0) × FindsNoLater r.report.worst s.report.worst
    by_ending (inl (zero, has)) = (zero, finds (none_if_zero files others j i a b asks zero))
    by_ending (inr (one, none)) = absurd (none (safe_too files others j i a b asks was.w least))

  pub more : MoreIsNoLater limits r s
  more files others j i alpha beta a b asks one two =
      or_nine s (λ ending. by_ending files others j i alpha beta a b asks one two (by_safety asks.problem i.start limits others beta b s.report.status.0 two ending)) (ends files others j i a b asks)

  module _ (files others : FileMap) (j i : JourneyModel) (until : ℕ) (asks : AskWithMore limits files others j i (Latest until) (Latest until) r s) where
    abbrev latest : Answered limits files r first asks.first j (Latest until) asks.first_asks
    latest = less files others j i (Latest until) (Latest until) asks

    no_sooner : (moment other : Moment) → ((tree : Tree) × IsSafeFromStart asks.problem.timetable.network asks.problem.target.0 (Some until) tree asks.problem.source.0 moment.0)
        → ((later : ℕ) → other.0 < later → (tree : Tree) → IsSafeFromStart asks.problem.timetable.network asks.problem.target.0 (Some until) tree asks.problem.source.0 later → ⊥) → moment.0 ≤ other.0
    no_sooner moment other has never = grind (arith, cases_lt)

    by_latest : EndsByLatest asks.problem (query_until asks.problem i.start until) s.report.status.0 → (s.report.status.0 ≡ 0) × FindsNoLater s.report.latest r.report.latest
    by_latest (inl (zero, has)) =
        let found = more_answers files others j i (Latest until) (Latest until) asks (none_if_zero files others j i (Latest until) (Latest until) asks zero) in
        let (other, found_too, after, printed_too) = found.answers in
        let (moment, found_is, greatest, printed) = latest.answers in
        let too = leaves_too files others j i (Latest until) (Latest until) asks until moment.0 greatest.1.0 greatest.1.1 in
        (zero, (other, moment, ap (λ (f : Findings). f.latest) found_too, ap (λ (f : Findings). f.latest) found_is, no_sooner moment other too after.2))
    by_latest (inr (one, never)) =
        let (moment, found_is, greatest, printed) = latest.answers in
        let (tree, safe) = leaves_too files others j i (Latest until) (Latest until) asks until moment.0 greatest.1.0 greatest.1.1 in
        absurd (never (moment.0, tree, omega (arith, greatest.0, asks.more.journey.start), safe))

  pub more_latest : MoreLeavesNoSooner limits r s
  more_latest files others j i until asks = or_nine s (by_latest files others j i until asks) (ends files others j i (Latest until) (Latest until) asks)

  pub more_plans : MorePlansNoWorse limits r s
  more_plans files others j i alpha beta query other bounds later asks none query_is other_is bounds_is later_is by =
      let p = asks.problem in
      let w = less files others j i (Plan alpha) (Plan beta) asks in
      let found_more = more_answers files others j i (Plan alpha) (Plan beta) asks none in
      let is_more = both files others j i (Plan alpha) (Plan beta) asks in
      let (q, v, asked, (graph, span, found, planned, printed, reads)) = w.answers in
      let (t, u, also, (table, spans, found_too, planned_too, printed_too, reads_too)) = found_more.answers in
      let same_query = one_some q query r.report.query (ap (λ (f : Findings). f.query) found) query_is in
      let same_other = one_some t other s.report.query (ap (λ (f : Findings). f.query) found_too) other_is in
      let same_bounds = one_some span bounds r.report.bounds (ap (λ (f : Findings). f.bounds) found) bounds_is in
      let same_later = one_some spans later s.report.bounds (ap (λ (f : Findings). f.bounds) found_too) later_is in
      let in_time : q.deadline.0 ≤ t.deadline.0 = subst (λ (z : Query). z.deadline.0 ≤ t.deadline.0) (sym same_query) (subst (λ (z : Query). query.deadline.0 ≤ z.deadline.0) (sym same_other) by) in
      let (image, alike) = rows_alike limits j i w.p p is_more in
      let source = also.source ∙ source_same limits j i w.p p is_more ∙ sym asked.source in
      let target = also.target ∙ target_same limits j i w.p p is_more ∙ sym asked.target in
      let start : t.start.0 ≤ q.start.0 = omega (arith, also.start_is, asked.start_is, asks.more.journey.start) in
      let worse = plan_no_worse w.p.timetable.network p.timetable.network image own q t (unfold_plan graph w.p.timetable.network q) (unfold_plan table p.timetable.network t) span spans
      (alike_no_later w.p.timetable.network p.timetable.network image own alike) planned.best planned_too.best source target start in_time in
      rw (sym same_later, sym same_bounds) worse

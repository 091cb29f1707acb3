-- Two runs agree.
use Rattle.run_laws.proofs.Common.{Limits, HasOneProblem, RunModel, IsRunWithin, sym, ap, subst, ◌∙◌, Query, Certify, CheckProof, Findings, IsAccepted, ◌≡◌, ◌≢◌, ℕ, refl, List, [], Option, Some}
use Rattle.run_laws.proofs.Common.{MatchOption, NetworkModel, Departures, Plan, Problem, arith, findings_of, FileMap, JourneyModel, SourceModel, own_problem, AnswersAsk, query_until, unfold_plan}
use Rattle.run_laws.proofs.{Common.{Interval, ◌≤◌, None, Moment, AskModel, status_of, deadline_of}, Agreeing.{FaultsAreReported, accepted, replayed, punctual_accepted, punctual_replayed}}
use Rattle.run_laws.proofs.Agreeing.{certified, leave, left_by_worst, never_left, search_alike, share_query, within, strategy, promise_is_sure, worst_is_kept, later_is_no_worse}
use Rattle.run_laws.proofs.Agreeing.{latest_is_of_last_row, reach_is_latest, reach_is_first_departure, later_reaches_more, first_fault, of_first, of_second, second_over, one_some, answered}
use Rattle.run_laws.proofs.{Ends.{one_end, forms_end}, FirstLine.first_line, MoreService.{more, more_latest, more_plans}, SamplePlans.sample_is_plan, RowBounds.row_upper, BySafety.asked_by}
use Rattle.run_laws.specs.{Pairs.Agree, Greatest.CertificateIsGreatest, RowsOfPlans.{RowIsOfPlan, CutRowIsOfPlan, starting}, MoreService.{AskWithMore, FindsNoLater, AskReordered}}
use Rattle.run_laws.specs.{MoreService.{OrderKeepsWorst, OrderKeepsPlans}, TwoRuns.OrStatus9, Saved.SavingKeeps}
use Rattle.journey_problem.specs.{OneProblem.{KeepsOwnFiles, HasOneTimetable}, CutProblems.IsCutProblem, Problems.IsProblemOver}
use Rattle.decision_graph.specs.GraphValues.{IsBest}
use Rattle.departure_table.specs.{Departures.{IsBestFrom, IsNoneSafeFrom, SafeFrom, first_row_by}, declared.DepartureRow.DepartureRow}
use Rattle.journey_answers.specs.Departures.{SafeOf}
use Rattle.std.proofs.Common.{rules, true}
use Rattle.std.specs.{Prelude.{bytes_eq, if◌then◌else◌}, Cmp.Lexicographic.bytes_decides}

-- ---- a text that is saved beside the files of its journey is in the file, and keeps these

own_bytes : (path : List ℕ) (bytes file : Option (List ℕ)) → (if bytes_eq path path then bytes else file) ≡ bytes
own_bytes path bytes file = let same : bytes_eq path path ≡ true = (bytes_decides path path).1 refl in rw same refl

pub saving : KeepsOwnFiles → (limits : Limits) (r : RunModel) → SavingKeeps limits r
saving keeps limits r files others j path front saved = search (rules, own_bytes)

-- ---- over feeds of the same rows, in whatever order, two runs find one least worst arrival and one upper bound

-- each moment is no later than the other
one_moment : (first second : Option Moment) → FindsNoLater first second → FindsNoLater second first → first ≡ second
one_moment first second (a, b, is, also, less) (c, d, are, too, more) = grind (arith, one_some)

-- a run without a fault does not end with 9
not_nine : {P : Type 0} (s : RunModel) → s.report.status.0 ≡ status_of s.report.fault → s.report.fault ≡ None → OrStatus9 s P → P
not_nine s status none h = grind arith

module _ (limits : Limits) (r s : RunModel) (first : IsRunWithin limits r) (second : IsRunWithin limits s) (one_problem : HasOneProblem) where
  module _ (files others : FileMap) (j i : JourneyModel) (a b : AskModel) (asks : AskReordered limits files others j i a b r s) where
    -- the other way round
    back : AskWithMore limits others files i j b a s r
    back =
        let w = answered limits files r first asks.more.first j a asks.more.first_asks asks.more.no_fault in
        record {
          first = asks.more.second;
          second = asks.more.first;
          first_asks = asks.more.second_asks;
          second_asks = asks.more.first_asks;
          more = asks.back;
          no_fault = asks.no_fault;
          problem = w.p;
          is_problem = w.is_problem;
        }

  pub keeps_worst : OrderKeepsWorst limits r s
  keeps_worst files others j i alpha beta a b asks one two =
      let there = not_nine s second.status asks.no_fault (more limits r s first second one_problem files others j i alpha beta a b asks.more one two) in
      let again = not_nine r first.status asks.more.no_fault (more limits s r second first one_problem others files i j beta alpha b a (back files others j i a b asks) two one) in
      one_moment r.report.worst s.report.worst there.1 again.1

  pub keeps_plans : OrderKeepsPlans limits r s
  keeps_plans files others j i alpha bounds later asks bounds_is later_is =
      let own = back files others j i (Plan alpha) (Plan alpha) asks in
      let w = answered limits files r first asks.more.first j (Plan alpha) asks.more.first_asks asks.more.no_fault in
      let v = answered limits others s second asks.more.second i (Plan alpha) asks.more.second_asks asks.no_fault in
      let one = asked_by w.p j.start limits files alpha (Plan alpha) (findings_of r.report) w.text refl w.answers in
      let two = asked_by v.p i.start limits others alpha (Plan alpha) (findings_of s.report) v.text refl v.answers in
      let worst = keeps_worst files others j i alpha alpha (Plan alpha) (Plan alpha) asks refl refl in
      let same_worst : one.w ≡ two.w = one_some one.w two.w s.report.worst (sym worst ∙ one.worst) two.worst in
      let start : one.q.start.0 ≡ two.q.start.0 = one.asked.start_is ∙ sym asks.more.more.journey.start ∙ sym two.asked.start_is in
      let deadline : one.q.deadline.0 ≡ two.q.deadline.0 =
      one.asked.deadline ∙ ap (λ (m : ℕ). deadline_of m one.w.0 alpha) start ∙ ap (λ (m : Moment). deadline_of two.q.start.0 m.0 alpha) same_worst ∙ sym two.asked.deadline in
      let down : later.hi ≤ bounds.hi = more_plans limits r s first second one_problem files others j i alpha alpha one.q two.q bounds later asks.more asks.no_fault one.query two.query bounds_is later_is
      (omega (arith, deadline)) in
      let up : bounds.hi ≤ later.hi = more_plans limits s r second first one_problem others files i j alpha alpha two.q one.q later bounds own asks.more.no_fault two.query one.query later_is bounds_is
      (omega (arith, deadline)) in
      omega (arith, down, up)

-- ---- over one network the first row of `departures` by a moment has the upper bound of the plan of who sets out then

no_row : (moment : ℕ) (rows : List DepartureRow) (row : DepartureRow) → rows ≡ [] → first_row_by moment rows ≡ Some row → ⊥
no_row moment rows row none found = grind arith

module _ (limits : Limits) (r s : RunModel) (first : IsRunWithin limits r) (second : IsRunWithin limits s) (one_problem : HasOneProblem) where
  pub row_of_plan : RowIsOfPlan limits r s
  row_of_plan files others j i until last alpha p q query rows row bounds calm also asks asks_too well is is_too same early late rows_are row_is query_is deadline bounds_are =
      let w = answered limits files r first calm j (Departures until last) asks well.first in
      let v = answered limits others s second also i (Plan alpha) asks_too well.second in
      let (table, found, are, safe, printed) =
      subst (λ (x : Problem). AnswersAsk (Some files) limits j.start x (Departures until last) (findings_of r.report) w.text) (one_problem limits files j w.p p w.is_problem is) w.answers in
      let (t, u, asked, (graph, span, found_too, planned, printed_too, reads)) =
      subst (λ (x : Problem). AnswersAsk (Some others) limits i.start x (Plan alpha) (findings_of s.report) v.text) (one_problem limits others i v.p q v.is_problem is_too) v.answers in
      let same_rows = one_some table rows r.report.departures (ap (λ (f : Findings). f.departures) found) rows_are in
      let same_query = one_some t query s.report.query (ap (λ (f : Findings). f.query) found_too) query_is in
      let same_bounds = one_some span bounds s.report.bounds (ap (λ (f : Findings). f.bounds) found_too) bounds_are in
      let own = query_until p j.start until in
      let there : first_row_by i.start table ≡ Some row = ap (first_row_by i.start) same_rows ∙ row_is in
      let apart : p.source.0 ≢ p.target.0 = λ e. no_row i.start table row (are.at_once e) there in
      let best : IsBestFrom p.timetable.network (SafeFrom p.timetable.network p.source.0 own) i.start row =
      subst (λ (o : Option DepartureRow). MatchOption o (IsNoneSafeFrom (SafeOf p own) i.start) (IsBestFrom p.timetable.network (SafeOf p own) i.start)) there ((are.table apart).answers i.start early late) in
      let plan : IsBest p.timetable.network t (unfold_plan graph p.timetable.network t) span =
      subst (λ (n : NetworkModel). IsBest n t (unfold_plan graph n t) span) same.network planned.best in
      let until_is : t.deadline.0 ≡ until = ap (λ (z : Query). z.deadline.0) same_query ∙ deadline in
      row_upper p.timetable.network p.source.0 i.start own t row (unfold_plan graph p.timetable.network t) span best plan (asked.source ∙ same.source) (asked.target ∙ same.target) asked.start_is until_is
      ∙ ap (λ (b : Interval). b.hi) same_bounds

  -- a problem over a cut file is one for each start
  from_start : (others : FileMap) (j : JourneyModel) (cut : List ℕ) (start : ℕ) (p : Problem) → IsCutProblem limits others cut j p → IsCutProblem limits others cut (starting j start) p
  from_start others j cut start p is = grind arith

  pub cut_row_of_plan : CutRowIsOfPlan r s
  cut_row_of_plan files others j cut start until last alpha query rows row bounds over calm also agree asks asks_too well early late rows_are row_is query_is deadline bounds_are =
      let w = answered limits files r first calm j (Departures until last) asks well.first in
      let there = own_problem limits files others j w.p agree w.is_problem in
      let is_cut = subst (λ (t : SourceModel). IsProblemOver limits others t j w.p) over there in
      let later = subst (λ (t : SourceModel). IsProblemOver limits others t (starting j start) w.p) (sym over) (from_start others j cut start w.p is_cut) in
      row_of_plan files others j (starting j start) until last alpha w.p w.p query rows row bounds calm also asks asks_too well w.is_problem later
      (record { network = refl; source = refl; target = refl }) early late rows_are row_is query_is deadline bounds_are

-- ---- where the certificate of `certify` has a value, one that `check` accepts has one that is no greater

module _ (limits : Limits) (r s : RunModel) (first : IsRunWithin limits r) (second : IsRunWithin limits s) (one_problem : HasOneProblem) where
  pub greatest : CertificateIsGreatest r s
  greatest files others j alpha path proof other both well one_query proof_is other_is =
      let w = of_first limits r s first second one_problem files others j (Certify alpha) (CheckProof path) both well.first in
      let v = of_second limits r s first second one_problem files others j (Certify alpha) (CheckProof path) both well.second in
      let (q, worst, asked, certified) = w.answers in
      let (t, certificate, in_file, held) = second_over limits r s first second one_problem files others j (Certify alpha) (CheckProof path) both w.p w.is_problem v in
      let same_query = one_some t q s.report.query (ap (λ (f : Findings). f.query) held.found_is) (sym one_query ∙ ap (λ (f : Findings). f.query) certified.found_is) in
      let same_proof = one_some certified.proof proof r.report.proof (ap (λ (f : Findings). f.proof) certified.found_is) proof_is in
      let same_other = one_some certificate other s.report.proof (ap (λ (f : Findings). f.proof) held.found_is) other_is in
      let accepted = subst (λ (z : Query). IsAccepted w.p.timetable.network z certificate.values) same_query held.accepted in
      rw (sym same_proof, sym same_other) (certified.best.each certificate.values accepted)

module _ (limits : Limits) (r s : RunModel) (first : IsRunWithin limits r) (second : IsRunWithin limits s) (one_problem : HasOneProblem) where
  pub agree : KeepsOwnFiles → FaultsAreReported → HasOneTimetable → Agree limits r s
  agree keeps reported one_timetable = record {
    alike = one_end one_problem limits r s first second;
    forms = forms_end one_problem limits r s first second;
    saved = saving keeps limits r;
    first_line = first_line limits r first;
    accepted = accepted limits r s first second one_problem;
    replayed = replayed limits r s first second one_problem;
    punctual = punctual_accepted limits r s first second one_problem;
    punctual_replayed = punctual_replayed limits r s first second one_problem;
    certified = certified limits r s first second one_problem;
    leave = leave limits r s first second one_problem;
    by_worst = left_by_worst limits r s first second one_problem;
    never = never_left limits r s first second one_problem;
    search = search_alike limits r s first second one_problem;
    query = share_query limits r s first second one_problem;
    within = within limits r s first second one_problem;
    greatest = greatest limits r s first second one_problem;
    strategy = strategy limits r s first second one_problem;
    promise = promise_is_sure limits r s first second one_problem;
    worst = worst_is_kept limits r s first second one_problem;
    later = later_is_no_worse limits r s first second one_problem;
    more = more limits r s first second one_problem;
    more_latest = more_latest limits r s first second one_problem;
    more_plans = more_plans limits r s first second one_problem;
    order_worst = keeps_worst limits r s first second one_problem;
    order_plans = keeps_plans limits r s first second one_problem;
    last_row = latest_is_of_last_row limits r s first second one_problem;
    row_of_plan = row_of_plan limits r s first second one_problem;
    cut_row_of_plan = cut_row_of_plan limits r s first second one_problem;
    reach_latest = reach_is_latest limits r s first second one_problem one_timetable;
    reach_departures = reach_is_first_departure limits r s first second one_problem one_timetable;
    reach_later = later_reaches_more limits r s first second one_problem;
    sample = sample_is_plan one_problem limits r s first second;
    first_fault = first_fault limits r s first second one_problem reported;
  }

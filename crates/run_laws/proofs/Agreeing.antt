-- What two runs of questions about a journey agree in.
use Rattle.run_laws.proofs.Common.{◌≡◌, ℕ, ◌≤◌, List, length, Option, None, Some, Result, Ok, Err, arith, ◌↔◌, inl, inr, sym, subst, ap, ◌∙◌, Appends, FileMap, file_at, Limits, Moment, Query}
use Rattle.run_laws.proofs.Common.{IsLeastWorst, PlanGraph, JobModel, JourneyModel, AskModel, Ask, Safe, Expand, Plan, Certify, CheckProof, CheckGraph, Punctual, Departures, Latest, Reach}
use Rattle.run_laws.proofs.Common.{job_of, Fault, Problem, status_of, HasOneProblem, IsProblem, Findings, findings_of, Head, graph_of, NetworkModel, IsValid, graph_in, graph_as, trip_by}
use Rattle.run_laws.proofs.Common.{AnswersPlan, head_of, AnswersCertify, query_until, AnswersAsk, EndsAsk, FailsJourney, FailsScore, EndsByGraphFile, EndsByWalk, AnswersJob, NamedParts}
use Rattle.run_laws.proofs.Common.{own_problem, WritesLine, Interval, IsEnclosed, punctual_row, [], ◌++◌, RunModel, IsRunWithin, IsUntroubled, worst_kept, no_worse, of_last_row}
use Rattle.run_laws.proofs.{Reaches.{over_timetable, latest_by_row, begins_the_departures, keeps_rows}, Asks.{answer_of, outcome_of}, BySafety.{one_status, never_latest, by_safety, asked_by}}
use Rattle.run_laws.proofs.{BySafety.one_asked, Certified.{printed_certificate, value_within}, Departing.{alike, by_worst}, OneFile.{one_ok, never_both}, Plans.one_strategy, Printed.IsSafeText}
use Rattle.run_laws.proofs.{Printed.{IsAfterRow, of_plan, of_punctual, read_again, accepted as accept, not_stuck, there_is_a_trip, enclosed, keeps_upper}, Queries.{in_one_query, worst_is}}
use Rattle.run_laws.specs.Pairs.{AskBoth, IsSaved, OrStatus9, PlanIsAccepted, PlanIsReplayed, IsReplayed, PunctualIsAccepted, PunctualIsReplayed, CertificateIsAccepted, LeaveAlike, LeaveByWorst}
use Rattle.run_laws.specs.Pairs.{NeverLeave, SearchAlike, ShareQuery, CertificateIsWithin, ShareStrategy, PromiseIsSure, WorstIsKept, LaterIsNoWorse, LatestIsOfLastRow, FaultIsFirst}
use Rattle.run_laws.specs.{Reaches.{from_stop, ReachesBoth, ReachIsLatest, ReachIsFirstDeparture, LaterReachesMore}, Printed.KeepsUpperBound}
use Rattle.std.proofs.{Common.IsSome, lemmas.List.append_cancel_left}
use Rattle.command_line.specs.Jobs.{Replay}
use Rattle.graph_text.specs.{declared.reader.TextFault.TextFault, FirstFaults.IsFirstFaultOf}
use Rattle.plan_model.specs.NameLists.{NameLists}
use Rattle.meat_engine.specs.Received.{Outcome}
use Rattle.meat_engine.proofs.Undisturbed.{fails as job_fails}
use Rattle.departure_table.specs.{declared.{DepartureRow.DepartureRow, reach_rows.ReachRow.ReachRow}, Looked.asked_at}
use Rattle.journey_answers.specs.{Departures.AreByRules, Reach.AreReached}
use Rattle.journey_problem.specs.OneProblem.{HasOneTimetable}
use Rattle.late_chance.proofs.Rounded.{no_chance}
use Rattle.journey_model.specs.declared.faults.Fault.TheVariants as fault

-- what was written after the same bytes was one text
pub one_text : (old : Option (List ℕ)) (text other : List ℕ) (new : Option (List ℕ)) → IsSome old → Appends old new text → Appends old new other → text ≡ other
one_text old text other new known first second = grind (arith, append_cancel_left)

-- a run that ends with 0 has no fault
no_fault_of : (fault : Option Fault) → status_of fault ≡ 0 → fault ≡ None
no_fault_of fault is = grind arith

same_job : (words : List (List ℕ)) (j : JourneyModel) (a : AskModel) (wanted : JobModel) → job_of words ≡ Ok wanted → job_of words ≡ Ok (Ask j a) → wanted ≡ Ask j a
same_job words j a wanted is also = cc

pub one_some : {A : Type 0} (a b : A) (x : Option A) → x ≡ Some a → x ≡ Some b → a ≡ b
one_some a b x is also = cc

-- where the file has this graph, a replay by it ends as its walk does
walk_ends : (limits : Limits) (files : FileMap) (start : ℕ) (path late : List ℕ) (p : Problem) (status : ℕ) (head : Head) (graph : PlanGraph)
    → graph_in limits p start None (file_at files path) ≡ Ok (head, graph) → EndsByGraphFile limits files start path late p status → EndsByWalk (trip_by p head graph late) status
walk_ends limits files start path late p status head graph reads (inl (h, g, at, ends)) =
    let same : (h, g) ≡ (head, graph) = one_ok (graph_in limits p start None (file_at files path)) (h, g) (head, graph) at reads in
    subst (λ (w : Head × PlanGraph). EndsByWalk (trip_by p w.0 w.1 late) status) same ends
walk_ends limits files start path late p status head graph reads (inr (fault, at, reported)) = grind (arith, never_both)

-- the fault that is read of a text is its first
abbrev pub FaultsAreReported : Type 0
FaultsAreReported =
    (n : NetworkModel) (names : NameLists) (source target start : ℕ) (text : List ℕ) (f : TextFault) → IsValid n
    → graph_of text n names source target start ≡ Err f ↔ IsFirstFaultOf n names source target start text f

as_text : (read : Result (Head × PlanGraph) TextFault) (f : TextFault) → graph_as read ≡ Err (fault.GraphFile f) → read ≡ Err f
as_text read f is = grind arith

module _ (limits : Limits) (files : FileMap) (r : RunModel) (run : IsRunWithin limits r) (calm : IsUntroubled files r) where
  module _ (j : JourneyModel) (a : AskModel) (asks : job_of r.words ≡ Ok (Ask j a)) where
    -- what it answered, where it has no fault
    pub record Answered : Type 0 where
      pub text : List ℕ
      pub written : Appends r.before.out.written r.after.out.written text
      pub p : Problem
      pub is_problem : IsProblem limits files j p
      pub answers : AnswersAsk (Some files) limits j.start p a (findings_of r.report) text

    pub answered : r.report.fault ≡ None → Answered
    answered none =
        let (text, (wanted, is, answers), written) = answer_of limits files r run calm.reports none in
        let (p, has, there, reported) = subst (λ (w : JobModel). AnswersJob (Some files) limits w (findings_of r.report) text) (same_job r.words j a wanted is asks) answers in
        record { text = text; written = written; p = p; is_problem = there; answers = reported }

    -- its status, where its files have a problem
    pub ends_so : (p : Problem) → IsProblem limits files j p → OrStatus9 r (EndsAsk limits files j.start p a r.report.status.0)
    ends_so p is = (run.complete calm.files_calm calm.out_calm).problem files j a p calm.reports asks is

  pub no_fault : r.report.status.0 ≡ 0 → r.report.fault ≡ None
  no_fault zero = no_fault_of r.report.fault (sym run.status ∙ zero)

pub or_nine : {P Q : Type 0} (s : RunModel) → (P → Q) → OrStatus9 s P → OrStatus9 s Q
or_nine s f h = grind arith

module _ (limits : Limits) (r s : RunModel) (first : IsRunWithin limits r) (second : IsRunWithin limits s) (one_problem : HasOneProblem) where
  module _ (files others : FileMap) (j : JourneyModel) (a b : AskModel) (both : AskBoth files others j a b r s) where
    abbrev pub First : Type 0
    First = Answered limits files r first both.first j a both.first_asks

    pub of_first : r.report.fault ≡ None → First
    of_first = answered limits files r first both.first j a both.first_asks

    abbrev pub Second : Type 0
    Second = Answered limits others s second both.second j b both.second_asks

    pub of_second : s.report.fault ≡ None → Second
    of_second = answered limits others s second both.second j b both.second_asks

    -- the problem of the files of the first is that of the files of the second
    pub other_problem : (p : Problem) → IsProblem limits files j p → IsProblem limits others j p
    other_problem p is = own_problem limits files others j p both.agree is

    -- the answers of one run, over the problem of the other
    pub second_over : (p : Problem) → IsProblem limits files j p → (w : Second) → AnswersAsk (Some others) limits j.start p b (findings_of s.report) w.text
    second_over p is w = grind (arith, other_problem p is)

    pub first_over : (p : Problem) → IsProblem limits files j p → (w : First) → AnswersAsk (Some files) limits j.start p a (findings_of r.report) w.text
    first_over p is w = subst (λ (q : Problem). AnswersAsk (Some files) limits j.start q a (findings_of r.report) w.text) (one_problem limits files j w.p p w.is_problem is) w.answers

    pub second_ends : (p : Problem) → IsProblem limits files j p → OrStatus9 s (EndsAsk limits others j.start p b s.report.status.0)
    second_ends p is = ends_so limits others s second both.second j b both.second_asks p (other_problem p is)

    pub first_ends : (p : Problem) → IsProblem limits files j p → OrStatus9 r (EndsAsk limits files j.start p a r.report.status.0)
    first_ends = ends_so limits files r first both.first j a both.first_asks

    pub second_none : s.report.status.0 ≡ 0 → s.report.fault ≡ None
    second_none = no_fault limits others s second both.second

    -- what the first wrote is what was kept, after its front
    pub kept_text : (path front : List ℕ) (kept : IsSaved limits others path front r) (w : First) → front ++ kept.text ≡ w.text
    kept_text path front kept w = one_text r.before.out.written (front ++ kept.text) w.text r.after.out.written kept.known kept.written w.written

    pub there : (path : List ℕ) (kept : IsSaved limits others path [] r) (w : First) → file_at others path ≡ Some w.text
    there path kept w = kept.there ∙ ap (λ (t : List ℕ). Some t) (kept_text path [] kept w)

    pub small : (path : List ℕ) (kept : IsSaved limits others path [] r) (w : First) → length w.text ≤ limits.bytes
    small path kept w = subst (λ (t : List ℕ). length t ≤ limits.bytes) (kept_text path [] kept w) kept.small

  -- a graph file whose strategy is safe
  module _ (files others : FileMap) (j : JourneyModel) (a : AskModel) (path text : List ℕ) (p : Problem) (is_problem : IsProblem limits files j p) (own : IsSafeText j.start p text)
      (in_file : file_at others path ≡ Some text) (fits : length text ≤ limits.bytes) where
    -- is accepted by the second run
    accepted_by : (both : AskBoth files others j a (CheckGraph path) r s) (P : Type 0)
        → ((line : List ℕ) → IsEnclosed p (findings_of s.report) line (head_of own.q own.bounds) own.graph → P) → OrStatus9 s ((s.report.status.0 ≡ 0) × P)
    accepted_by both P keeps =
        or_nine s (λ ends.
        let zero = accept limits others j.start p text path own in_file fits s.report.status.0 ends in
        let v = of_second files others j a (CheckGraph path) both (second_none files others j a (CheckGraph path) both zero) in
        let checks = second_over files others j a (CheckGraph path) both p is_problem v in
        (zero, keeps v.text (enclosed limits others j.start p text path own in_file fits (findings_of s.report) v.text checks)))
        (second_ends files others j a (CheckGraph path) both p is_problem)

    -- or replayed by it
    replayed_by : (late : List ℕ) → AskBoth files others j a (Replay path late) r s → IsReplayed limits others j path late s
    replayed_by late both =
        let again = read_again limits others j.start p text path own in_file fits in
        record {
          problem = p;
          is_problem = other_problem files others j a (Replay path late) both p is_problem;
          head = head_of own.q own.bounds;
          graph = own.graph;
          reads = again;
          ends = or_nine s (walk_ends limits others j.start path late p s.report.status.0 (head_of own.q own.bounds) own.graph again) (second_ends files others j a (Replay path late) both p is_problem);
          safe = not_stuck limits others j.start p text path own in_file fits late (head_of own.q own.bounds) own.graph again;
          arrives = λ lates. there_is_a_trip limits others j.start p text path own in_file fits lates;
        }

  pub accepted : PlanIsAccepted limits r s
  accepted files others j alpha path both kept =
      let w = of_first files others j (Plan alpha) (CheckGraph path) both kept.no_fault in
      let in_file = there files others j (Plan alpha) (CheckGraph path) both path kept w in
      let fits = small files others j (Plan alpha) (CheckGraph path) both path kept w in
      accepted_by files others j (Plan alpha) path w.text w.p w.is_problem (of_plan j.start alpha w.p (findings_of r.report) w.text w.answers) in_file fits both
      (KeepsUpperBound (findings_of r.report) (findings_of s.report)) (keeps_upper j.start alpha w.p (findings_of r.report) w.text w.answers (findings_of s.report))

  pub replayed : PlanIsReplayed limits r s
  replayed files others j alpha path late both kept =
      let w = of_first files others j (Plan alpha) (Replay path late) both kept.no_fault in
      replayed_by files others j (Plan alpha) path w.text w.p w.is_problem (of_plan j.start alpha w.p (findings_of r.report) w.text w.answers)
      (there files others j (Plan alpha) (Replay path late) both path kept w) (small files others j (Plan alpha) (Replay path late) both path kept w) late both

  module _ (files others : FileMap) (j : JourneyModel) (alpha promise : ℕ) (b : AskModel) (path : List ℕ) (chance : Interval) (both : AskBoth files others j (Punctual alpha promise) b r s)
      (is : r.report.chance ≡ Some chance) (kept : IsSaved limits others path (punctual_row promise chance) r) where
    prints : First files others j (Punctual alpha promise) b both
    prints = of_first files others j (Punctual alpha promise) b both kept.no_fault

    -- the text of `punctual` by its row
    after_row : IsAfterRow j.start alpha prints.p (findings_of r.report) prints.text promise
    after_row = of_punctual j.start alpha prints.p (findings_of r.report) prints.text promise prints.answers

    rest_is : kept.text ≡ after_row.rest
    rest_is =
        let same = one_some after_row.chance chance r.report.chance after_row.found_is is in
        let rows = kept_text files others j (Punctual alpha promise) b both path (punctual_row promise chance) kept prints ∙ after_row.rows in
        append_cancel_left (punctual_row promise chance) kept.text after_row.rest (rows ∙ ap (λ (c : Interval). punctual_row promise c ++ after_row.rest) same)

    rest_there : file_at others path ≡ Some after_row.rest
    rest_there = kept.there ∙ ap (λ (t : List ℕ). Some t) rest_is

    rest_small : length after_row.rest ≤ limits.bytes
    rest_small = subst (λ (t : List ℕ). length t ≤ limits.bytes) rest_is kept.small

  pub punctual_accepted : PunctualIsAccepted limits r s
  punctual_accepted files others j alpha promise path chance both is kept =
      let w = prints files others j alpha promise (CheckGraph path) path chance both is kept in
      let row = after_row files others j alpha promise (CheckGraph path) path chance both is kept in
      accepted_by files others j (Punctual alpha promise) path row.rest w.p w.is_problem row.safe_text
      (rest_there files others j alpha promise (CheckGraph path) path chance both is kept) (rest_small files others j alpha promise (CheckGraph path) path chance both is kept) both
      (r.report.bounds ≡ s.report.bounds)
      (λ line own. row.bounds_is ∙ ap (λ (b : Interval). Some b) (row.means ∙ sym own.scored.means) ∙ sym (ap (λ (f : Findings). f.bounds) own.found_is))

  pub punctual_replayed : PunctualIsReplayed limits r s
  punctual_replayed files others j alpha promise path late chance both is kept =
      let w = prints files others j alpha promise (Replay path late) path chance both is kept in
      let row = after_row files others j alpha promise (Replay path late) path chance both is kept in
      replayed_by files others j (Punctual alpha promise) path row.rest w.p w.is_problem row.safe_text
      (rest_there files others j alpha promise (Replay path late) path chance both is kept) (rest_small files others j alpha promise (Replay path late) path chance both is kept) late both

  pub certified : CertificateIsAccepted limits r s
  certified files others j alpha path both kept =
      let w = of_first files others j (Certify alpha) (CheckProof path) both kept.no_fault in
      let in_file = there files others j (Certify alpha) (CheckProof path) both path kept w in
      let fits = small files others j (Certify alpha) (CheckProof path) both path kept w in
      or_nine s (printed_certificate limits others j.start alpha w.p (findings_of r.report) w.text path s.report.status.0 w.answers in_file fits)
      (second_ends files others j (Certify alpha) (CheckProof path) both w.p w.is_problem)

  pub leave : LeaveAlike limits r s
  leave files others j until last p both is =
      or_nine r (λ latest. or_nine s (alike p (query_until p j.start until) r.report.status.0 s.report.status.0 latest)
      (second_ends files others j (Latest until) (Departures until last) both p is))
      (first_ends files others j (Latest until) (Departures until last) both p is)

  pub left_by_worst : LeaveByWorst r s
  left_by_worst files others j alpha until worst both none is =
      let w = of_first files others j (Safe alpha) (Latest until) both none in
      let (q, v, asked, (found, text)) = w.answers in
      let same = one_some v worst r.report.worst (ap (λ (f : Findings). f.worst) found) is in
      let least = subst (λ (m : Moment). IsLeastWorst w.p.timetable.network w.p.source.0 w.p.target.0 j.start (Some m)) same (worst_is w.p j.start alpha q v asked) in
      or_nine s (by_worst w.p j.start until worst s.report.status.0 least) (second_ends files others j (Safe alpha) (Latest until) both w.p w.is_problem)

  -- over files of which `safe` finds that no strategy is safe
  pub never_left : NeverLeave r s
  never_left files others j alpha until both none =
      let outcome = subst (λ (f : Option Fault). Outcome (Some files) limits r.words r.report r.before.out.written r.after.out.written (WritesLine r.before.err r.after.err) f)
      none (outcome_of limits files r first both.first.reports) in
      let (known, why) = job_fails (Some files) limits r.words r.report r.before.out.written r.after.out.written (WritesLine r.before.err r.after.err) fault.NoSafe outcome
      (λ e. absurd (cc)) (λ e. absurd (cc)) (Ask j (Safe alpha)) both.first_asks in
      by_cause known why
    where
      by_cause : (known : Option NamedParts) → FailsJourney (Some files) limits j (Safe alpha) known fault.NoSafe → OrStatus9 s (s.report.status.0 ≡ 1)
      by_cause known (inr early) = absurd early.0
      by_cause known (inl (p, has, is, (named, fails))) =
          or_nine s (never_latest p j.start until s.report.status.0 fails.1) (second_ends files others j (Safe alpha) (Latest until) both p is)

  pub search_alike : SearchAlike limits r s
  search_alike files others j alpha beta a b p both one two is =
      or_nine r (λ ends. or_nine s (λ also. one_status p j.start r.report.status.0 s.report.status.0
      (by_safety p j.start limits files alpha a r.report.status.0 one ends) (by_safety p j.start limits others beta b s.report.status.0 two also))
      (second_ends files others j a b both p is))
      (first_ends files others j a b both p is)

  pub share_query : ShareQuery r s
  share_query files others j alpha a b both one two well =
      let w = of_first files others j a b both well.first in
      let v = of_second files others j a b both well.second in
      one_asked w.p j.start alpha limits files others (findings_of r.report) (findings_of s.report) (asked_by w.p j.start limits files alpha a (findings_of r.report) w.text one w.answers)
      (asked_by w.p j.start limits others alpha b (findings_of s.report) v.text two (second_over files others j a b both w.p w.is_problem v))

  pub within : CertificateIsWithin limits r s
  within files others j alpha p query bounds proof v both well is query_is bounds_is certificate_is least =
      let plans = first_over files others j (Plan alpha) (Certify alpha) both p is (of_first files others j (Plan alpha) (Certify alpha) both well.first) in
      let other = of_second files others j (Plan alpha) (Certify alpha) both well.second in
      let (q, worst, asked, (graph, span, found, planned, reported, reads)) = plans in
      let (t, w, also, certificate) = second_over files others j (Plan alpha) (Certify alpha) both p is other in
      let one = in_one_query p j.start alpha (AnswersCertify p (findings_of s.report) other.text) q t worst w asked also certificate in
      let same_query = one_some q query r.report.query (ap (λ (f : Findings). f.query) found) query_is in
      let same_bounds = one_some span bounds r.report.bounds (ap (λ (f : Findings). f.bounds) found) bounds_is in
      let same_certificate = one_some one.proof proof s.report.proof (ap (λ (f : Findings). f.proof) one.found_is) certificate_is in
      value_within p.timetable.network query graph bounds proof.values v (rw (sym same_query, sym same_bounds) planned) (rw (sym same_query, sym same_certificate) one.best) least

  pub strategy : ShareStrategy limits r s
  strategy files others j alpha p query rides places bounds other_bounds both well is query_is rides_is places_is bounds_is spans_is =
      let other = of_second files others j (Expand alpha) (Plan alpha) both well.second in
      let (q, worst, asked, (graph, span, found, expanded, text)) = first_over files others j (Expand alpha) (Plan alpha) both p is (of_first files others j (Expand alpha) (Plan alpha) both well.first) in
      let (t, w, also, plans) = second_over files others j (Expand alpha) (Plan alpha) both p is other in
      let (table, spans, found_too, planned, printed, reads) = in_one_query p j.start alpha (AnswersPlan p (findings_of s.report) other.text) q t worst w asked also plans in
      let same_query = one_some q query r.report.query (ap (λ (f : Findings). f.query) found) query_is in
      let same_rides = one_some graph rides r.report.expanded (ap (λ (f : Findings). f.expanded) found) rides_is in
      let same_places = one_some table places s.report.graph (ap (λ (f : Findings). f.graph) found_too) places_is in
      let same_bounds = one_some span bounds r.report.bounds (ap (λ (f : Findings). f.bounds) found) bounds_is in
      let same_others = one_some spans other_bounds s.report.bounds (ap (λ (f : Findings). f.bounds) found_too) spans_is in
      one_strategy p.timetable.network query rides places bounds other_bounds (rw (sym same_query, sym same_rides, sym same_bounds) expanded) (rw (sym same_query, sym same_places, sym same_others) planned)

  pub promise_is_sure : PromiseIsSure r
  promise_is_sure files j alpha promise query chance one query_is chance_is by =
      let w = answered limits files r first one.untroubled j (Punctual alpha promise) one.asks one.no_fault in
      let (q, v, asked, (graph, least, bounds, found, punctual, seen, scored, printed)) = w.answers in
      let same_query = one_some q query r.report.query (ap (λ (f : Findings). f.query) found) query_is in
      let same_chance = one_some least chance r.report.chance (ap (λ (f : Findings). f.chance) found) chance_is in
      no_chance w.p.timetable.network query promise graph chance (rw (sym same_query, sym same_chance) punctual) by

  pub worst_is_kept : WorstIsKept limits r
  worst_is_kept files j alpha p query graph one is query_is graph_is arrives =
      grind (arith, answered limits files r first one.untroubled j (Plan alpha) one.asks one.no_fault, one_some, worst_kept p.timetable.network query graph)

  pub later_is_no_worse : LaterIsNoWorse r s
  later_is_no_worse files others j alpha beta query other bounds later both well query_is other_is bounds_is later_is by =
      let w = of_first files others j (Plan alpha) (Plan beta) both well.first in
      let (q, v, asked, (graph, span, found, planned, printed, reads)) = w.answers in
      let (t, u, also, (table, spans, found_too, planned_too, printed_too, reads_too)) =
      second_over files others j (Plan alpha) (Plan beta) both w.p w.is_problem (of_second files others j (Plan alpha) (Plan beta) both well.second) in
      let same_query = one_some q query r.report.query (ap (λ (f : Findings). f.query) found) query_is in
      let same_other = one_some t other s.report.query (ap (λ (f : Findings). f.query) found_too) other_is in
      let same_bounds = one_some span bounds r.report.bounds (ap (λ (f : Findings). f.bounds) found) bounds_is in
      let same_later = one_some spans later s.report.bounds (ap (λ (f : Findings). f.bounds) found_too) later_is in
      let less = subst (λ (z : Query). z.deadline.0 ≤ t.deadline.0) (sym same_query) (subst (λ (z : Query). query.deadline.0 ≤ z.deadline.0) (sym same_other) by) in
      let worse = no_worse w.p.timetable.network q t graph table span spans planned planned_too (also.source ∙ sym asked.source) (also.target ∙ sym asked.target)
      (also.start_is ∙ sym asked.start_is) less in
      rw (sym same_later, sym same_bounds) worse

  pub latest_is_of_last_row : LatestIsOfLastRow r s
  latest_is_of_last_row files others j until last query latest rows both well query_is differ before latest_is rows_is =
      let w = of_first files others j (Latest until) (Departures until last) both well.first in
      let x = second_over files others j (Latest until) (Departures until last) both w.p w.is_problem (of_second files others j (Latest until) (Departures until last) both well.second) in
      let (moment, found, greatest, printed) = w.answers in
      let (table, found_too, are, safe, printed_too) = x in
      let q = query_until w.p j.start until in
      let own_query : r.report.query ≡ Some (query_until w.p j.start until) = ap (λ (f : Findings). f.query) found in
      let same_query = one_some (query_until w.p j.start until) query r.report.query own_query query_is in
      let same_latest = one_some moment latest r.report.latest (ap (λ (f : Findings). f.latest) found) latest_is in
      let same_rows = one_some table rows s.report.departures (ap (λ (f : Findings). f.departures) found_too) rows_is in
      let apart = λ (e : w.p.source.0 ≡ w.p.target.0). differ (ap (λ (z : Query). z.source.0) (sym same_query) ∙ e ∙ ap (λ (z : Query). z.target.0) same_query) in
      of_last_row w.p.timetable.network w.p.source.0 (query_until w.p j.start until) j.start last rows latest (rw (sym same_rows) (are.table apart)) (rw (sym same_latest) greatest) before

  -- one run that asks about each place, and one that asks about another journey
  module _ (files others : FileMap) (j other : JourneyModel) (until : ℕ) (ask : AskModel) (rows : List ReachRow) (both : ReachesBoth files others j other until ask rows r s) where
    -- the rows of the first, over its problem
    pub record Reached : Type 0 where
      p : Problem
      is_problem : IsProblem limits files j p
      reached : AreReached p.timetable.network (query_until p j.start until) rows

    of_reach : Reached
    of_reach =
        let w = answered limits files r first both.first j (Reach until) both.first_asks both.no_fault in
        let (list, found, reached, printed) = w.answers in
        let same = one_some list rows r.report.reach (ap (λ (f : Findings). f.reach) found) both.reach in
        record { p = w.p; is_problem = w.is_problem; reached = subst (AreReached w.p.timetable.network (query_until w.p j.start until)) same reached }

    -- the answer of the second, over the problem of its journey
    other_answer : s.report.fault ≡ None → (p : Problem) → IsProblem limits others other p → (text : List ℕ) × AnswersAsk (Some others) limits other.start p ask (findings_of s.report) text
    other_answer none p is = grind (arith, answered)

  module _ (one_timetable : HasOneTimetable) (files others : FileMap) (j : JourneyModel) (name : List ℕ) (until : ℕ) (ask : AskModel) (p : Problem) (rows : List ReachRow)
      (both : ReachesBoth files others j (from_stop j name) until ask rows r s) (is : IsProblem limits files (from_stop j name) p) where
    from_there : IsProblem limits others (from_stop j name) p
    from_there = own_problem limits files others (from_stop j name) p both.agree is

    reached_there : AreReached p.timetable.network (asked_at (query_until p j.start until) (of_reach files others j (from_stop j name) until ask rows both).p.source.0) rows
    reached_there =
        let w = of_reach files others j (from_stop j name) until ask rows both in
        let same = one_timetable limits files j (Some name) w.p p w.is_problem is in
        over_timetable w.p p j.start until rows same.0 same.1 w.reached

  pub reach_is_latest : HasOneTimetable → ReachIsLatest limits r s
  reach_is_latest one files others j name until p rows both is away =
      let k = from_stop j name in
      let there = from_there one files others j name until (Latest until) p rows both is in
      or_nine s (λ ends. latest_by_row p j.start until _ rows (reached_there one files others j name until (Latest until) p rows both is) away s.report.status.0 s.report.latest (
        ends,
        λ zero.
            let (text, (moment, found, greatest, printed)) = other_answer files others j k until (Latest until) rows both (no_fault limits others s second both.second zero) p there in
            (moment, ap (λ (f : Findings). f.latest) found, greatest),
      ))
      (ends_so limits others s second both.second k (Latest until) both.second_asks p there)

  pub reach_is_first_departure : HasOneTimetable → ReachIsFirstDeparture limits r s
  reach_is_first_departure one files others j name until last p rows departures both is away soon none departures_are =
      let k = from_stop j name in
      let there = from_there one files others j name until (Departures until last) p rows both is in
      let (text, (table, found, are, safe, printed)) = other_answer files others j k until (Departures until last) rows both none p there in
      let same = one_some table departures s.report.departures (ap (λ (f : Findings). f.departures) found) departures_are in
      begins_the_departures p j.start until _ rows (reached_there one files others j name until (Departures until last) p rows both is) away last departures soon
      (subst (λ (list : List DepartureRow). AreByRules p (query_until p j.start until) last list) same (are.by_rules away)) safe

  pub later_reaches_more : LaterReachesMore r s
  later_reaches_more files others j until later rows more both none more_is less =
      let w = of_reach files others j j until (Reach later) rows both in
      let there = own_problem limits files others j w.p both.agree w.is_problem in
      let (text, (list, found, reached, printed)) = other_answer files others j j until (Reach later) rows both none w.p there in
      let same = one_some list more s.report.reach (ap (λ (f : Findings). f.reach) found) more_is in
      let others_reached = subst (AreReached w.p.timetable.network (query_until w.p j.start later)) same reached in
      keeps_rows w.p.timetable.network w.p.target w.p.source w.p.source (record { 0 = j.start }) (record { 0 = until }) (record { 0 = later }) less rows more w.reached.reach others_reached.reach

  -- the fault of the graph file, by what its text is read as
  module _ (reported : FaultsAreReported) (files : FileMap) (j : JourneyModel) (path text : List ℕ) (p : Problem) (f : TextFault) where
    abbrev IsFirst : Type 0
    IsFirst = IsFirstFaultOf p.timetable.network p.timetable.names p.source.0 p.target.0 j.start text f

    of_text : file_at files path ≡ Some text → length text ≤ limits.bytes → graph_in limits p j.start None (file_at files path) ≡ Err (fault.GraphFile f) → IsFirst
    of_text there small fails = grind (arith, as_text)

    of_score : FailsScore (Some files) limits j.start path p (fault.GraphFile f) → file_at files path ≡ Some text → length text ≤ limits.bytes → IsFirst
    of_score h is one = grind (arith, of_text)

    of_journey : (known : Option NamedParts) → IsProblem limits files j p → FailsJourney (Some files) limits j (CheckGraph path) known (fault.GraphFile f)
        → file_at files path ≡ Some text → length text ≤ limits.bytes → IsFirst
    of_journey known is h1 there small = grind (arith, of_score)

  pub first_fault : FaultsAreReported → FaultIsFirst limits r
  first_fault reported files j path text p f calm asks is there small fails = grind (arith, job_fails, of_journey)

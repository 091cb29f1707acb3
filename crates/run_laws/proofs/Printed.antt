-- What `plan` prints, and what `punctual` prints after its row, is a graph file that is read, and whose graph is safe.
use Rattle.run_laws.proofs.Common.{◌≡◌, ℕ, ◌≤◌, ap, sym, ◌∙◌, subst, arith, inl, inr, List, [], ◌++◌, None, Some, Result, Ok, Err, length, nat_lt, nat_tests, FileMap, file_at, Limits, Interval}
use Rattle.run_laws.proofs.Common.{Query, IsSafeFor, PlanGraph, unfold_plan, Head, IsReadAs, Fault, Problem, Findings, graph_in, InGraphFile, IsEnclosed, InQuery, AnswersPlan, head_of}
use Rattle.run_laws.proofs.Common.{EndsByScore, EndsByGraphFile, trip_by, ReplayFault, plan_text, punctual_row}
use Rattle.run_laws.specs.Printed.{ArrivesByFile, KeepsUpperBound}
use Rattle.graph_text.proofs.Accepted.{text_read}
use Rattle.graph_score.specs.Scores.{span_of}
use Rattle.journey_answers.specs.Punctual.{AnswersPunctual}
use Rattle.journey_answers.proofs.Bounds.{bounds_of_graph}
use Rattle.trip_replay.specs.{declared.Trace.Trace, Walk.{walk, IsAnswer, IsSafeAnswer}, Late.{ArePossible, Arrives}}
use Rattle.trip_replay.proofs.{Walks.safe_answer, Arrivals.arrives}
use Rattle.trip_replay.specs.declared.ReplayFault.TheVariants as stop

-- a result has one value
ok_is : {A : Type 0} (a b : A) (r : Result A Fault) → r ≡ Ok a → r ≡ Ok b → a ≡ b
ok_is a b r x y = cc

-- and no fault beside it
ok_no_err : {A : Type 0} (a : A) (f : Fault) (r : Result A Fault) → r ≡ Err f → r ≡ Ok a → ⊥
ok_no_err a f r x y = absurd (cc)

-- a result answers itself
is_own : (r : Result Trace ReplayFault) → IsAnswer r r
is_own r = grind arith

no_fault : (r : Result Trace ReplayFault) (trace : Trace) (e : ReplayFault) → r ≡ Ok trace → r ≡ Err e → ⊥
no_fault r trace e x y = absurd (cc)

-- a text is read as a graph of the question that a problem and a start ask, and its strategy is safe
pub record IsSafeText (start : ℕ) (p : Problem) (text : List ℕ) : Type 0 where
  pub q : Query
  pub bounds : Interval
  pub graph : PlanGraph
  pub source : q.source.0 ≡ p.source.0
  pub target : q.target.0 ≡ p.target.0
  pub start_is : q.start.0 ≡ start
  pub reads : IsReadAs p.timetable.network p.timetable.names (head_of q bounds) graph text
  pub safe : IsSafeFor p.timetable.network q (unfold_plan graph p.timetable.network q)

module _ (start alpha : ℕ) (p : Problem) (found : Findings) (text : List ℕ) where
  pub of_plan : InQuery p start alpha (AnswersPlan p found text) → IsSafeText start p text
  of_plan (q, worst, asked, (graph, bounds, is, planned, reported, reads)) = grind (arith, text_read p.timetable.network p.timetable.names p.timetable.valid (head_of q bounds) graph text reads)

  -- the text of `punctual` is the row of its chance and then such a text
  pub record IsAfterRow (promise : ℕ) : Type 0 where
    pub chance : Interval
    pub rest : List ℕ
    pub found_is : found.chance ≡ Some chance
    pub rows : text ≡ punctual_row promise chance ++ rest
    pub safe_text : IsSafeText start p rest
    pub bounds_is : found.bounds ≡ Some safe_text.bounds
    pub means : safe_text.bounds ≡ span_of p.timetable.network (unfold_plan safe_text.graph p.timetable.network safe_text.q)

  pub of_punctual : (promise : ℕ) → InQuery p start alpha (AnswersPunctual p promise found text) → IsAfterRow promise
  of_punctual promise (q, worst, asked, (graph, chance, bounds, is, punctual, seen, scored, own)) = record {
    chance = chance;
    rest = plan_text p.timetable.network p.timetable.names (head_of q bounds) graph;
    found_is = ap (λ (f : Findings). f.chance) is;
    rows = own.rows;
    safe_text = record {
      q = q;
      bounds = bounds;
      graph = graph;
      source = asked.source;
      target = asked.target;
      start_is = asked.start_is;
      reads = text_read p.timetable.network p.timetable.names p.timetable.valid (head_of q bounds) graph (plan_text p.timetable.network p.timetable.names (head_of q bounds) graph) own.reads_back;
      safe = punctual.safe;
    };
    bounds_is = ap (λ (f : Findings). f.bounds) is;
    means = scored.means;
  }

module _ (limits : Limits) (files : FileMap) (start : ℕ) (p : Problem) (text path : List ℕ) (own : IsSafeText start p text) (there : file_at files path ≡ Some text) (small : length text ≤ limits.bytes) where
  abbrev read_file : Result (Head × PlanGraph) Fault
  read_file = graph_in limits p start None (file_at files path)

  -- the text is read as its head and its graph
  pub read_again : read_file ≡ Ok (head_of own.q own.bounds, own.graph)
  read_again = grind (arith, nat_lt, nat_tests)

  one_pair : (head : Head) (graph : PlanGraph) → read_file ≡ Ok (head, graph) → ◌≡◌ {A = Head × PlanGraph} (head, graph) (head_of own.q own.bounds, own.graph)
  one_pair head graph is = ok_is (head, graph) (head_of own.q own.bounds, own.graph) read_file is read_again

  pub accepted : (status : ℕ) → EndsByScore limits files start path p status → status ≡ 0
  accepted status (inl (head, other, is, inl (zero, ok))) = zero
  accepted status (inl (head, other, is, inr (late, unsafe))) =
      absurd (unsafe (subst (λ (w : Head × PlanGraph). IsSafeFor p.timetable.network w.0.query (unfold_plan w.1 p.timetable.network w.0.query)) (sym (one_pair head other is)) own.safe))
  accepted status (inr (fault, is, reported)) = absurd (ok_no_err (head_of own.q own.bounds, own.graph) fault read_file is read_again)

  pub not_stuck : (late : List ℕ) (head : Head) (other : PlanGraph) → read_file ≡ Ok (head, other) → IsSafeAnswer head.query.deadline.0 (trip_by p head other late)
  not_stuck late head other read =
      let tree = unfold_plan own.graph p.timetable.network own.q in
      let trip = walk p.timetable.network tree late [] in
      subst (λ (w : Head × PlanGraph). IsSafeAnswer w.0.query.deadline.0 (trip_by p w.0 w.1 late)) (sym (one_pair head other read))
      (safe_answer p.timetable.network own.q tree late trip (is_own trip) own.safe)

  -- and whatever delays come, there is a trip by it
  pub there_is_a_trip : (late : ℕ → ℕ) → ArePossible p.timetable.network late → ArrivesByFile limits files start path p late
  there_is_a_trip late possible =
      let trip = arrives p.timetable.network own.q (unfold_plan own.graph p.timetable.network own.q) late own.safe possible in
      record {
        head = head_of own.q own.bounds;
        graph = own.graph;
        reads = read_again;
        trip = trip;
        ends = ends_well trip;
      }
    where
      ends_well : (trip : Arrives p.timetable.network own.q.deadline.0 (unfold_plan own.graph p.timetable.network own.q) late) → (status : ℕ)
          → EndsByGraphFile limits files start path trip.delays p status → status ≡ 0
      ends_well trip status (inl (head, other, at, inl (trace, walked, zero))) = zero
      ends_well trip status (inl (head, other, at, inr (stop, walked, eleven))) =
          let e = subst (λ (w : Head × PlanGraph). trip_by p w.0 w.1 trip.delays ≡ Err stop) (one_pair head other at) walked in
          absurd (no_fault (trip_by p (head_of own.q own.bounds) own.graph trip.delays) trip.trace stop trip.trip e)
      ends_well trip status (inr (fault, at, reported)) = absurd (ok_no_err (head_of own.q own.bounds, own.graph) fault read_file at read_again)

  -- what is found of it
  pub enclosed : (other : Findings) (line : List ℕ) → InGraphFile (Some files) limits start path p (IsEnclosed p other line) → IsEnclosed p other line (head_of own.q own.bounds) own.graph
  enclosed other line (head, read, in_file, is) = subst (λ (w : Head × PlanGraph). IsEnclosed p other line w.0 w.1) (one_pair head read in_file.reads) is

-- of what `plan` printed, the upper bound and no lesser lower one
pub keeps_upper : (start alpha : ℕ) (p : Problem) (found : Findings) (text : List ℕ) (answers : InQuery p start alpha (AnswersPlan p found text)) (other : Findings) (line : List ℕ)
    → IsEnclosed p other line (head_of (of_plan start alpha p found text answers).q (of_plan start alpha p found text answers).bounds) (of_plan start alpha p found text answers).graph
    → KeepsUpperBound found other
unfolding of_plan
keeps_upper start alpha p found text (q, worst, asked, (graph, bounds, is, planned, reported, reads)) other line own =
    let both = bounds_of_graph p.timetable.network q (unfold_plan graph p.timetable.network q) bounds planned.best in
    record {
      reported = bounds;
      found = own.bounds;
      planned_is = ap (λ (f : Findings). f.bounds) is;
      checked_is = ap (λ (f : Findings). f.bounds) own.found_is;
      upper = ap (λ (b : Interval). b.hi) own.scored.means ∙ sym both.0;
      lower = omega (arith, both.1, (ap (λ (b : Interval). b.lo) own.scored.means));
    }

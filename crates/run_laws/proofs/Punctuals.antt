-- A problem, a start, a percentage and a promise have one answer.
use Rattle.run_laws.proofs.Common.{arith, ◌≡◌, ℕ, List, ◌++◌, sym, ap, ap₂, ◌∙◌, Interval, Moment, Query, NetworkModel, PlanGraph, unfold_plan, plan_text, Problem, Findings, punctual_findings}
use Rattle.run_laws.proofs.{Common.{punctual_row, InQuery, head_of, IsOneAnswer}, OneStrategy.{IsThe, only_one}, PlaceTables.one_tidy, Queries.in_one_query}
use Rattle.graph_score.specs.Scores.{span_of}
use Rattle.late_chance.specs.Chances.{chance_scoring}
use Rattle.decision_graph.specs.LeastChances.{IsLeastChance, IsSeenLater}
use Rattle.journey_answers.specs.Punctual.{AnswersPunctual}

module _ (n : NetworkModel) (q : Query) where
  the : (graph : PlanGraph) (chance : Interval) → IsLeastChance n q graph chance
      → IsThe chance_scoring n q (unfold_plan graph n q) chance
  the graph chance is = record { safe = is.punctual.safe; by_rules = is.by_rules; at_once = is.at_once }

  one_chance : (a b : PlanGraph) (s t : Interval) → IsLeastChance n q a s → IsLeastChance n q b t → (a ≡ b) × (s ≡ t)
  one_chance a b s t is other = grind (arith, only_one, the, one_tidy)

one_seen : (n : NetworkModel) (q : Query) (promise : ℕ) (a b : PlanGraph) (s t : Interval) → IsSeenLater n q promise a s → IsSeenLater n q promise b t → (a ≡ b) × (s ≡ t)
one_seen n q promise a b s t is other = grind (arith, one_chance)

module _ (p : Problem) (found others : Findings) (text other : List ℕ) (promise : ℕ) where
  one_reported : (q : Query) (w : Moment) → AnswersPunctual p promise found text q w → AnswersPunctual p promise others other q w → IsOneAnswer found others text other
  one_reported q w (graph, chance, bounds, is, least, seen, scored, own) (graphs, chances, spans, is_other, least_other, seen_other, scored_other, own_other) =
      let both = one_seen p.timetable.network q promise graph graphs chance chances seen seen_other in
      let same : bounds ≡ spans = scored.means ∙ ap (λ (g : PlanGraph). span_of p.timetable.network (unfold_plan g p.timetable.network q)) both.0 ∙ sym scored_other.means in
      let text_of : PlanGraph → Interval → List ℕ = λ g b. plan_text p.timetable.network p.timetable.names (head_of q b) g in
      record {
        found = is ∙ ap₂ (λ (g : PlanGraph) (b : Interval). punctual_findings q w g b chance) both.0 same ∙ ap (punctual_findings q w graphs spans) both.1 ∙ sym is_other;
        text_is = own.rows ∙ ap₂ (λ (c : Interval) (rest : List ℕ). punctual_row promise c ++ rest) both.1 (ap₂ text_of both.0 same) ∙ sym own_other.rows;
      }

  pub one_punctual_answer : (start alpha : ℕ) → InQuery p start alpha (AnswersPunctual p promise found text) → InQuery p start alpha (AnswersPunctual p promise others other)
      → IsOneAnswer found others text other
  one_punctual_answer start alpha (q, w, is, reports) (r, v, also, reported) = one_reported q w reports (in_one_query p start alpha (AnswersPunctual p promise others other) q r w v is also reported)

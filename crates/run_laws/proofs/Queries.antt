-- A problem, a start and a percentage have one query.
use Rattle.run_laws.proofs.Common.{arith, ◌≡◌, ℕ, Some, Moment, Query, IsLeastWorst, deadline_of, Problem, IsQueryOf, HasNoSafe}
use Rattle.plan_model.proofs.Laws.{IsLeast-unique}

abbrev query_of : (source target start deadline : ℕ) → Query
query_of source target start deadline = record { source = record { 0 = source }; target = record { 0 = target }; start = record { 0 = start }; deadline = record { 0 = deadline } }

module _ (p : Problem) (start alpha : ℕ) where
  abbrev pub IsWorstOf : Moment → Type 0
  IsWorstOf w = IsLeastWorst p.timetable.network p.source.0 p.target.0 start (Some w)

  pub worst_is : (q : Query) (w : Moment) → IsQueryOf p start alpha q w → IsWorstOf w
  worst_is q w is = grind arith

  query_is : (q : Query) (w : Moment) → IsQueryOf p start alpha q w → q ≡ query_of p.source.0 p.target.0 start (deadline_of start w.0 alpha)
  query_is q w is = grind (arith, query_of)

  -- what holds of the queries of both holds of one
  pub in_one_query : (P : Query → Moment → Type 0) (q r : Query) (w v : Moment) → IsQueryOf p start alpha q w → IsQueryOf p start alpha r v → P r v → P q w
  in_one_query P q r w v is other holds = grind (arith, IsLeast-unique, worst_is, query_is, query_of)

  -- where there is a query some strategy always reaches the target
  pub not_none : (q : Query) (w : Moment) → IsQueryOf p start alpha q w → HasNoSafe p start → ⊥
  not_none q w is none = grind (arith, IsLeast-unique, worst_is)

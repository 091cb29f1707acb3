-- The answers about a graph file, and about the latest moment, follow from the files.
use Rattle.run_laws.proofs.Common.{ℕ, List, Some, arith, cases_lt, FileMap, Limits, Moment, Query, PlanGraph, Head, Problem, Findings, AnswersReplay, IsEnclosed, InGraphFile, AnswersLatest}
use Rattle.run_laws.proofs.{Common.IsOneAnswer, OneFile.in_graph}

abbrev moment_of : ℕ → Moment
moment_of m = record { 0 = m }

module _ (p : Problem) (found others : Findings) (text other : List ℕ) where
  abbrev One : Type 0
  One = IsOneAnswer found others text other

  pub one_latest_answer : (q : Query) → AnswersLatest p q found text → AnswersLatest p q others other → One
  one_latest_answer q (moment, is, greatest, text_is) (moments, is_other, greatest_other, text_other) = grind (arith, cases_lt, moment_of)

  one_trip : (late : List ℕ) (head : Head) (graph : PlanGraph) → AnswersReplay p late found text head graph → AnswersReplay p late others other head graph → One
  one_trip late head graph reports reported = grind arith

  one_enclosed : (head : Head) (graph : PlanGraph) → IsEnclosed p found text head graph → IsEnclosed p others other head graph → One
  one_enclosed head graph reports reported = grind arith

  module _ (files : FileMap) (limits : Limits) (start : ℕ) (path : List ℕ) where
    pub one_trip_answer : (late : List ℕ) → InGraphFile (Some files) limits start path p (AnswersReplay p late found text)
        → InGraphFile (Some files) limits start path p (AnswersReplay p late others other) → One
    one_trip_answer late = in_graph p files limits start path (AnswersReplay p late found text) (AnswersReplay p late others other) One (one_trip late)

    pub one_score_answer : InGraphFile (Some files) limits start path p (IsEnclosed p found text)
        → InGraphFile (Some files) limits start path p (IsEnclosed p others other) → One
    one_score_answer = in_graph p files limits start path (IsEnclosed p found text) (IsEnclosed p others other) One one_enclosed

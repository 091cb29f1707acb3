-- What is asked by safe strategies has one status, one query and one least worst arrival.
use Rattle.run_laws.proofs.Common.{◌≡◌, ℕ, subst, inl, inr, List, Some, FileMap, Limits, Moment, Query, IsQueryOf, reaches_from_safe, AskModel, Safe, Expand, Plan, Certify, arith, Punctual}
use Rattle.run_laws.proofs.{Common.{Problem, Findings, AnswersAsk, EndsAsk, HasNoSafe, query_until, EndsByLatest}, Departing.later_is_now, Queries.in_one_query}
use Rattle.run_laws.specs.Pairs.{IsBySafety}
use Rattle.meat_engine.specs.Ends.{EndsBySafety}

module _ (p : Problem) (start : ℕ) where
  pub one_status : (status other : ℕ) → EndsBySafety p start status → EndsBySafety p start other → status ≡ other
  one_status status other h is = grind arith

  -- where no strategy always reaches the target there is no latest moment
  pub never_latest : (until status : ℕ) → HasNoSafe p start → EndsByLatest p (query_until p start until) status → status ≡ 1
  never_latest until status none (inr (one, never)) = one
  never_latest until status none (inl (zero, later)) =
      let (tree, safe) = later_is_now p (query_until p start until) later in
      absurd (none tree (reaches_from_safe p.timetable.network p.source.0 p.target.0 start until tree safe).0)

  module _ (limits : Limits) (files : FileMap) (alpha : ℕ) where
    pub by_safety : (a : AskModel) (status : ℕ) → IsBySafety alpha a → EndsAsk limits files start p a status → EndsBySafety p start status
    by_safety a status by ends = grind arith

    -- the query that was found, and the least worst arrival
    pub record Asked (found : Findings) : Type 0 where
      pub q : Query
      pub w : Moment
      pub asked : IsQueryOf p start alpha q w
      pub query : found.query ≡ Some q
      pub worst : found.worst ≡ Some w

    found_by : (beta : ℕ) (found : Findings) (q : Query) (w : Moment) → beta ≡ alpha → IsQueryOf p start beta q w → found.query ≡ Some q → found.worst ≡ Some w → Asked found
    found_by beta found q w same is query worst = record { q = q; w = w; asked = subst (λ (a : ℕ). IsQueryOf p start a q w) same is; query = query; worst = worst }

    pub asked_by : (a : AskModel) (found : Findings) (text : List ℕ) → IsBySafety alpha a → AnswersAsk (Some files) limits start p a found text → Asked found
    asked_by (Safe beta) found text by (q, w, is, answers) = grind (arith, found_by)
    asked_by (Expand beta) found text by (q, w, is, answers) = grind (arith, found_by)
    asked_by (Plan beta) found text by (q, w, is, answers) = grind (arith, found_by)
    asked_by (Certify beta) found text by (q, w, is, answers) = grind (arith, found_by)
    asked_by (Punctual beta promise) found text by (q, w, is, answers) = grind (arith, found_by)
    asked_by _ found text by answers = absurd by

  -- both found one query and one least worst arrival
  pub one_asked : (alpha : ℕ) (limits : Limits) (files others : FileMap) (found other : Findings) → Asked limits files alpha found → Asked limits others alpha other
      → (found.query ≡ other.query) × (found.worst ≡ other.worst)
  one_asked alpha limits files others found other a b = grind (arith, in_one_query)

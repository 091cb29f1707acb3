-- A question about a problem ends as the problem says.
use Rattle.meat_engine.proofs.Common.{arith, ◌≡◌, ℕ, ap, subst, inl, inr, List, Option, Some, ◌⊎◌, FileMap, Limits, JourneyModel, AskModel, Safe, Expand, Plan, Replays, Certify, CheckProof}
use Rattle.meat_engine.proofs.Common.{CheckGraph, Punctual, Departures, Latest, Reach, Input, Fault, Read, status_of, NamedParts, Problem, IsProblem, IsProblemFault, none_unread, IsQueryOf}
use Rattle.meat_engine.proofs.Common.{IsNoSafe, AnswersAsk, FailsAsk, EndsAsk, FailsJourney, FailsCheck, FailsReplay, FailsScore, EndsBySafety, EndsByGraphFile, EndsByCertificateFile}
use Rattle.meat_engine.proofs.Common.{EndsByScore, Findings}
use Rattle.plan_model.specs.declared.model.{Query.Query, Moment.Moment}
use Rattle.journey_problem.proofs.OneProblem.{one_problem}

module _ (p : Problem) (start : ℕ) where
  -- a journey with a query has a safe strategy
  pub asked_ends : (alpha : ℕ) (q : Query) (w : Moment) → IsQueryOf p start alpha q w → EndsBySafety p start 0
  asked_ends alpha q w a = grind arith

  pub unsafe_ends : (fault : Fault) → IsNoSafe p start fault → EndsBySafety p start (status_of (Some fault))
  unsafe_ends fault (is, none) = inr (ap (λ (f : Fault). status_of (Some f)) is, λ h. none h.0 h.1)

module _ (limits : Limits) (files : FileMap) (start : ℕ) (p : Problem) where
  -- an answered question
  pub answers_end : (ask : AskModel) (found : Findings) (text : List ℕ) → AnswersAsk (Some files) limits start p ask found text → EndsAsk limits files start p ask 0
  answers_end ask found text reached = grind (arith, asked_ends)

  replay_ends : (graph late : List ℕ) (fault : Fault) → ((i : Input) → fault ≡ Read i → ⊥)
      → FailsReplay (Some files) limits start graph late p fault → EndsByGraphFile limits files start graph late p (status_of (Some fault))
  replay_ends graph late fault never (inl (of, fails)) = grind (arith, none_unread)
  replay_ends graph late fault never (inr (head, plan, file, trip)) =
      inl (head, plan, file.reads, inr (trip.stop, trip.trip, ap (λ (f : Fault). status_of (Some f)) trip.fault_is))

  check_ends : (path : List ℕ) (fault : Fault) → ((i : Input) → fault ≡ Read i → ⊥) → FailsCheck (Some files) limits start path p fault
      → EndsByCertificateFile limits files start path p (status_of (Some fault))
  check_ends path fault never (inl (of, fails)) = grind (arith, none_unread)
  check_ends path fault never (inr (q, certificate, file, (connection, is, last))) = grind arith

  score_ends : (path : List ℕ) (fault : Fault) → ((i : Input) → fault ≡ Read i → ⊥)
      → FailsScore (Some files) limits start path p fault → EndsByScore limits files start path p (status_of (Some fault))
  score_ends path fault never h1 = grind (arith, none_unread)

  -- a question with no answer
  pub fails_end : (ask : AskModel) (fault : Fault) → ((i : Input) → fault ≡ Read i → ⊥) → FailsAsk (Some files) limits start p ask fault
      → EndsAsk limits files start p ask (status_of (Some fault))
  fails_end (Safe alpha) fault never fails = unsafe_ends p start fault fails
  fails_end (Expand alpha) fault never fails = unsafe_ends p start fault fails
  fails_end (Plan alpha) fault never fails = unsafe_ends p start fault fails
  fails_end (Replays graph late) fault never fails = replay_ends graph late fault never fails
  fails_end (Certify alpha) fault never fails = unsafe_ends p start fault fails
  fails_end (CheckProof path) fault never fails = check_ends path fault never fails
  fails_end (CheckGraph path) fault never fails = score_ends path fault never fails
  fails_end (Punctual alpha promise) fault never fails = unsafe_ends p start fault fails
  fails_end (Departures until last) fault never (is, none) = inr (ap (λ (f : Fault). status_of (Some f)) is, λ h. none h.0 h.1)
  fails_end (Latest until) fault never (is, none) = inr (ap (λ (f : Fault). status_of (Some f)) is, λ h. none h.0 h.2 h.1 h.3)
  fails_end (Reach until) fault never fails = absurd fails

module _ (limits : Limits) (files : FileMap) (j : JourneyModel) (a : AskModel) where
  -- over some problem of the files it ends so
  abbrev pub EndsOver : ℕ → Type 0
  EndsOver status = (p : Problem) × IsProblem limits files j p × EndsAsk limits files j.start p a status

  -- the files have one problem
  pub ends_in : (p : Problem) (status : ℕ) → IsProblem limits files j p → EndsOver status → EndsAsk limits files j.start p a status
  ends_in p status is (q, other, ends) = subst (λ x. EndsAsk limits files j.start x a status) (one_problem limits files j q p other is) ends

  -- it fails over a problem, or the files of the journey have a fault
  pub fails_over : (known : Option NamedParts) (fault : Fault) → ((i : Input) → fault ≡ Read i → ⊥) → FailsJourney (Some files) limits j a known fault
      → EndsOver (status_of (Some fault)) ⊎ IsProblemFault limits files j fault
  fails_over known fault never (inl (p, sound, is, (named, fails))) = inl (p, is, fails_end limits files j.start p a fault never fails)
  fails_over known fault never (inr (early, first)) = inr first

-- The first failure after the outcomes of a ride, and the bounds where there is none.
use Rattle.graph_score.proofs.Common.{◌≡◌, ℕ, suc, ◌⊎◌, List, [], ◌∷◌, length, Option, Some, None, arith, refl, inl, inr, ap, nat_tests, Outcome, Query, NetworkModel, outcomes, EachKid, Tree}
use Rattle.graph_score.proofs.Common.{Ride, Kids, Nil, Kid, Failure, Outlook, Safe, Failing, Fails, FailsIn, IsFirstFailure, spans_of, sooner_failure, with_outlook, first_failure_of, spans_in}
use Rattle.graph_score.proofs.Common.{mean_or, blend_of, IsOutlook}
use Rattle.interval_fixed.specs.Interval.{mean_of}

-- a failure is not forgotten
first_failure_of-some : (f : Failure) (kids : List Outlook) → first_failure_of (Some f) kids ≡ None → ⊥
first_failure_of-some f [] none = cc none
first_failure_of-some f (Safe span ∷ kids) none = first_failure_of-some f kids none
first_failure_of-some f (Failing g ∷ kids) none = first_failure_of-some (sooner_failure (Some f) g) kids none

-- where none fails there are bounds of each
pub length_spans : (kids : List Outlook) → first_failure_of None kids ≡ None → length (spans_in kids) ≡ length kids
length_spans [] none = refl
length_spans (Safe span ∷ kids) none = ap suc (length_spans kids none)
length_spans (Failing g ∷ kids) none = absurd (first_failure_of-some g kids none)

abbrev May : Type 1
May = ℕ → ℕ → Type 0

-- none of what may be is left out
abbrev IsFirst : Option Failure → May → Type 0
IsFirst None F = (p x : ℕ) → F p x → ⊥
IsFirst (Some f) F = IsFirstFailure F f.place.0 f.moment.0

-- the same, in other words
reported_as : (first : Option Failure) (F G : May) → ((p x : ℕ) → F p x → G p x) → ((p x : ℕ) → G p x → F p x) → IsFirst first F → IsFirst first G
reported_as first F G there back is = grind arith

-- the sooner of two first failures is the first of both
first_both : (a f : Failure) (F G : May) → IsFirst (Some a) F → IsFirst (Some f) G → IsFirst (Some (sooner_failure (Some a) f)) (λ p x. F p x ⊎ G p x)
first_both a f F G own other = grind (arith, nat_tests)

module _ (n : NetworkModel) (q : Query) where
  -- with what comes of one tree more
  with_tree : (first : Option Failure) (child : Outlook) (tree : Tree) (F : May) → IsFirst first F → IsOutlook n q child tree → IsFirst (with_outlook first child) (λ p x. F p x ⊎ Fails q tree p x)
  with_tree first child tree F is own = grind (arith, reported_as, first_both)

  first_reported : (row : List Outcome) (values : List Outlook) (kids : Kids) (first : Option Failure) (F : May) → EachKid (IsOutlook n q) row values kids
      → IsFirst first F → IsFirst (first_failure_of first values) (λ p x. F p x ⊎ FailsIn q kids p x)
  first_reported [] [] Nil first F each is = grind (arith, reported_as)
  first_reported (o ∷ row) (value ∷ values) (Kid w tree kids) first F each is =
      reported_as (first_failure_of (with_outlook first value) values) (λ p x. (F p x ⊎ Fails q tree p x) ⊎ FailsIn q kids p x) (λ p x. F p x ⊎ (Fails q tree p x ⊎ FailsIn q kids p x))
      (λ p x may. grind arith) (λ p x may. grind arith)
      (first_reported row values kids (with_outlook first value) (λ p x. F p x ⊎ Fails q tree p x) each.2 (with_tree first value tree F is each.1))
  first_reported _ _ _ first F each is = absurd each

  -- where none fails, the bounds are those of the children
  spans_reported : (row : List Outcome) (values : List Outlook) (kids : Kids) → EachKid (IsOutlook n q) row values kids → first_failure_of None values ≡ None → spans_in values ≡ spans_of n kids
  spans_reported [] [] Nil each none = refl
  spans_reported (o ∷ row) (Safe span ∷ values) (Kid w tree kids) each none = grind (arith, spans_reported row values kids each.2 none)
  spans_reported (o ∷ row) (Failing f ∷ values) (Kid w tree kids) each none = absurd (first_failure_of-some f values none)
  spans_reported _ _ _ each none = absurd each

  -- what comes of a ride, by what comes of its children
  pub blend_reported : (i j : ℕ) (values : List Outlook) (kids : Kids) → EachKid (IsOutlook n q) (outcomes n j) values kids → IsOutlook n q (blend_of (outcomes n j) values) (Ride i j kids)
  blend_reported i j values kids each =
      let reported = first_reported (outcomes n j) values kids None (λ p x. ⊥) each (λ p x may. may) in
      let is = reported_as (first_failure_of None values) (λ p x. ⊥ ⊎ FailsIn q kids p x) (FailsIn q kids) (λ p x may. elim may [
        | inl never ↦ absurd never
        | inr there ↦ there
      ]) (λ p x may. inr may) reported in
      by_first (first_failure_of None values) refl is
    where
      by_first : (first : Option Failure) → first_failure_of None values ≡ first → IsFirst first (FailsIn q kids) → IsOutlook n q (mean_or (outcomes n j) values first) (Ride i j kids)
      by_first None e is = (is, ap (mean_of (outcomes n j)) (spans_reported (outcomes n j) values kids each e))
      by_first (Some f) e is = is

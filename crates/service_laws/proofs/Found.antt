-- What is safe in a network is safe in one that offers no less.
use Rattle.service_laws.proofs.Common.{◌≡◌, ℕ, ◌+◌, ◌<◌, ◌≤◌, arith, Option, Some, None, List, [], ◌∷◌, refl, sym, ap, subst, All, Contains, All-contains, All-tail, Contains-cons_cases}
use Rattle.service_laws.proofs.Common.{Contains-head, inl, inr, Contains-nil, Outcome, Moment, NetworkModel, count, from_of, to_of, arr_of, outcomes, Tree, Done, Ride, Stuck, Kids, Nil, Kid}
use Rattle.service_laws.proofs.Common.{worst, worst_of, IsLeg, IsBoardable, IsBoardableAtStart, IsInTime, IsSafe, AreSafe, IsSafeFromStart, IsLeastWorst, IsFound, Embeds, EmbedsBy, AreBeside}
use Rattle.service_laws.proofs.{Common.{IsNoLaterThan, IsSafeToo, EmbedsNoLater, EmbedsAlike, IsNoWorse, IsAsGood}, Trees.{Compare, CompareAll, NoLater, Same, no_worse, as_good}}

in_time_sooner : (by : Option ℕ) (x y : ℕ) → y ≤ x → IsInTime by x → IsInTime by y
in_time_sooner by x y less h = grind arith

module _ (small large : NetworkModel) (image place : ℕ → ℕ) (found : IsFound small large image place) where
  leg_found : (i j : ℕ) → IsLeg small i j → IsLeg large (image i) (image j)
  leg_found i j leg = grind arith

  board_found : (p x y i : ℕ) → i < count small → y ≤ x → IsBoardable small p x i → IsBoardable large (place p) y (image i)
  board_found p x y i there sooner b = grind arith

  start_found : (s x y i : ℕ) → i < count small → y ≤ x → IsBoardableAtStart small s x i → IsBoardableAtStart large (place s) y (image i)
  start_found s x y i there sooner b = (subst (λ (p : ℕ). from_of large (image i) ≡ place p) b.0 (found.from i there), omega (arith, b.1, sooner, found.departs i there))

  module _ (target : ℕ) (by : Option ℕ) where
    -- where the exit's image ends
    ends : (j : ℕ) (kids : Kids) → j < count small → AreSafe large (place target) by kids (outcomes large (image j)) (place (to_of small j)) (arr_of large (image j))
        → AreSafe large (place target) by kids (outcomes large (image j)) (to_of large (image j)) (arr_of large (image j))
    ends j kids there safe = subst (λ (p : ℕ). AreSafe large (place target) by kids (outcomes large (image j)) p (arr_of large (image j))) (sym (found.to j there)) safe

    -- a safe strategy that arrives by a moment
    abbrev By : ℕ → ℕ → ℕ → Type 0
    By p x most = (tree : Tree) × IsSafe large (place target) by tree (place p) x × (worst tree ≤ most)

    abbrev AllBy : List Outcome → ℕ → ℕ → ℕ → Type 0
    AllBy row p a most = (kids : Kids) × AreSafe large (place target) by kids row (place p) a × (worst_of kids ≤ most)

    -- one for each outcome
    children_by : (row : List Outcome) (p a most : ℕ) → All (λ o. By p (a + o.delay) most) row → AllBy row p a most
    children_by [] p a most each = (Nil, tt, omega arith)
    children_by (o ∷ row) p a most each =
        let (tree, safe, less) = All-contains (λ o. By p (a + o.delay) most) (o ∷ row) o each (Contains-head o row) in
        let (kids, all, others) = children_by row p a most (All-tail (λ o. By p (a + o.delay) most) o row each) in
        (Kid o.weight tree kids, (refl, safe, all), omega (arith, less, others))

    module _ (arrives : (j : ℕ) → j < count small → All (λ o. (other : Outcome) × Contains (outcomes small j) other × (arr_of large (image j) + o.delay ≤ arr_of small j + other.delay)) (outcomes large (image j))) where
      mutual
        safe_by : (tree : Tree) (p x y : ℕ) → y ≤ x → IsSafe small target by tree p x → By p y (worst tree)
        safe_by (Done a) p x y sooner h = (Done y, (refl, ap place h.1, in_time_sooner by x y sooner h.2), omega (arith, h.0, sooner))
        safe_by (Ride i j kids) p x y sooner h =
            let (next, safe, less) = children_by (outcomes large (image j)) (to_of small j) (arr_of large (image j)) (worst_of kids) (λ k d within.
            let (other, has, no_later) = arrives j h.1.exit k d within in child_by kids (outcomes small j) (to_of small j) (arr_of small j) other _ h.3 has no_later) in
            (Ride (image i) (image j) next, ((λ e. h.0 (found.places p target e)), leg_found i j h.1, board_found p x y i h.1.enter sooner h.2, ends j next h.1.exit safe), less)
        safe_by (Stuck q z) p x y sooner h = absurd h

        -- the child of an outcome, from no later a moment
        child_by : (kids : Kids) (row : List Outcome) (p a : ℕ) (o : Outcome) (y : ℕ) → AreSafe small target by kids row p a → Contains row o → y ≤ a + o.delay → By p y (worst_of kids)
        child_by Nil [] p a o y safe has sooner = absurd (Contains-nil o has)
        child_by (Kid w tree kids) (first ∷ row) p a o y safe has sooner = elim (Contains-cons_cases first row o has) [
          | inl is ↦
              let same : first.delay ≡ o.delay = ap (λ (z : Outcome). z.delay) is in
              let (other, own, less) = safe_by tree p (a + first.delay) y (omega (arith, same, sooner)) safe.1 in
              (other, own, omega (arith, less))
          | inr more ↦ grind (arith, child_by kids row p a o y safe.2 more sooner)
        ]
        child_by _ _ p a o y safe has sooner = absurd safe

      start_by : (tree : Tree) (s x y : ℕ) → y ≤ x → IsSafeFromStart small target by tree s x
          → (other : Tree) × IsSafeFromStart large (place target) by other (place s) y × (worst other ≤ worst tree)
      start_by (Done a) s x y sooner h = (Done y, (refl, ap place h.1, in_time_sooner by x y sooner h.2), omega (arith, h.0, sooner))
      start_by (Ride i j kids) s x y sooner h =
          let (next, safe, less) = children_by (outcomes large (image j)) (to_of small j) (arr_of large (image j)) (worst_of kids) (λ k d within.
          let (other, has, no_later) = arrives j h.1.exit k d within in child_by kids (outcomes small j) (to_of small j) (arr_of small j) other _ h.3 has no_later) in
          (Ride (image i) (image j) next, ((λ e. h.0 (found.places s target e)), leg_found i j h.1, start_found s x y i h.1.enter sooner h.2, ends j next h.1.exit safe), less)
      start_by (Stuck q z) s x y sooner h = absurd h

    -- side by side, by the same weights
    module _ (R : ℕ → ℕ → Type 0) (no_later : (a b : ℕ) → R a b → a ≤ b)
        (arrives : (j : ℕ) → j < count small → AreBeside R (outcomes large (image j)) (arr_of large (image j)) (outcomes small j) (arr_of small j)) where
      mutual
        safe_beside : (tree : Tree) (p x y : ℕ) → R y x → IsSafe small target by tree p x
            → (other : Tree) × IsSafe large (place target) by other (place p) y × Compare R other tree
        safe_beside (Done a) p x y r h = (Done y, (refl, ap place h.1, in_time_sooner by x y (no_later y x r) h.2), subst (λ (m : ℕ). R y m) (sym h.0) r)
        safe_beside (Ride i j kids) p x y r h =
            let (next, safe, alike) = all_beside kids (outcomes large (image j)) (outcomes small j) (to_of small j) (arr_of large (image j)) (arr_of small j) (arrives j h.1.exit) h.3 in
            (Ride (image i) (image j) next, ((λ e. h.0 (found.places p target e)), leg_found i j h.1, board_found p x y i h.1.enter (no_later y x r) h.2, ends j next h.1.exit safe), alike)
        safe_beside (Stuck q z) p x y r h = absurd h

        all_beside : (kids : Kids) (row others : List Outcome) (p a b : ℕ) → AreBeside R row a others b → AreSafe small target by kids others p b
            → (next : Kids) × AreSafe large (place target) by next row (place p) a × CompareAll R next kids
        all_beside Nil [] [] p a b beside safe = (Nil, tt, tt)
        all_beside (Kid w tree kids) (o ∷ row) (other ∷ others) p a b beside safe =
            let (first, own, one) = safe_beside tree p (b + other.delay) (a + o.delay) beside.1 safe.1 in
            let (next, all, alike) = all_beside kids row others p a b beside.2 safe.2 in
            (Kid o.weight first next, (refl, own, all), (omega (arith, beside.0, safe.0), one, alike))
        all_beside Nil row (other ∷ others) p a b beside safe = absurd safe
        all_beside (Kid w tree kids) row [] p a b beside safe = absurd safe
        all_beside _ _ _ p a b beside safe = absurd beside

      start_beside : (tree : Tree) (s x y : ℕ) → R y x → IsSafeFromStart small target by tree s x
          → (other : Tree) × IsSafeFromStart large (place target) by other (place s) y × Compare R other tree
      start_beside (Done a) s x y r h = (Done y, (refl, ap place h.1, in_time_sooner by x y (no_later y x r) h.2), subst (λ (m : ℕ). R y m) (sym h.0) r)
      start_beside (Ride i j kids) s x y r h =
          let (next, safe, alike) = all_beside kids (outcomes large (image j)) (outcomes small j) (to_of small j) (arr_of large (image j)) (arr_of small j) (arrives j h.1.exit) h.3 in
          (Ride (image i) (image j) next, ((λ e. h.0 (found.places s target e)), leg_found i j h.1, start_found s x y i h.1.enter (no_later y x r) h.2, ends j next h.1.exit safe), alike)
      start_beside (Stuck q z) s x y r h = absurd h

-- what is safe in the one is safe in the other, and no later at worst
pub safe_too : (small large : NetworkModel) (image place : ℕ → ℕ) → Embeds small large image place → IsSafeToo (λ t u. worst t ≤ worst u) (λ a b. a ≤ b) small large place
safe_too small large image place e = record {
  after = λ target by tree p x y sooner safe. safe_by small large image place e.found target by e.arrives tree p x y sooner safe;
  from_start = λ target by tree s x y sooner safe. start_by small large image place e.found target by e.arrives tree s x y sooner safe;
}

-- and by the same weights
pub compares : (R : ℕ → ℕ → Type 0) → ((a b : ℕ) → R a b → a ≤ b) → (small large : NetworkModel) (image place : ℕ → ℕ) → EmbedsBy R small large image place
    → IsSafeToo (Compare R) R small large place
compares R no_later small large image place e = record {
  after = λ target by tree p x y r safe. safe_beside small large image place e.found target by R no_later e.arrives tree p x y r safe;
  from_start = λ target by tree s x y r safe. start_beside small large image place e.found target by R no_later e.arrives tree s x y r safe;
}

-- the means by it
module _ (small large : NetworkModel) (image place : ℕ → ℕ) where
  pub safe_no_worse : EmbedsNoLater small large image place → IsSafeToo IsNoWorse NoLater small large place
  safe_no_worse e =
      let too = compares NoLater (λ a b less. less) small large image place e in
      record {
        after = λ target by tree p x y r safe. let (other, own, alike) = too.after target by tree p x y r safe in (other, own, no_worse other tree alike);
        from_start = λ target by tree s x y r safe. let (other, own, alike) = too.from_start target by tree s x y r safe in (other, own, no_worse other tree alike);
      }

  pub safe_as_good : EmbedsAlike small large image place → IsSafeToo IsAsGood Same small large place
  safe_as_good e =
      let too = compares Same (λ a b same. omega (arith, same)) small large image place e in
      record {
        after = λ target by tree p x y r safe. let (other, own, alike) = too.after target by tree p x y r safe in (other, own, as_good other tree alike);
        from_start = λ target by tree s x y r safe. let (other, own, alike) = too.from_start target by tree s x y r safe in (other, own, as_good other tree alike);
      }

module _ (small large : NetworkModel) (image place : ℕ → ℕ) (e : Embeds small large image place) (source target start own : ℕ) where
  pub least_no_later : (least other : Option Moment) → own ≤ start → IsLeastWorst small source target start least → IsLeastWorst large (place source) (place target) own other
      → IsNoLaterThan other least
  least_no_later None other sooner is are = tt
  least_no_later (Some w) None sooner is none =
      let (tree, safe, less) = (safe_too small large image place e).from_start target None is.0.0 source start own sooner is.0.1 in
      absurd (none tree safe)
  least_no_later (Some w) (Some v) sooner is other =
      let (tree, safe, less) = (safe_too small large image place e).from_start target None is.0.0 source start own sooner is.0.1 in
      omega (arith, less, is.0.2, other.1 tree safe)

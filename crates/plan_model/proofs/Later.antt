-- Trees with all moments greater by a shift.
use Rattle.plan_model.proofs.Common.{◌≡◌, ℕ, ◌+◌, ◌-◌, ◌*◌, ◌^◌, ◌<◌, ◌≤◌, arith, Option, List, [], ◌∷◌, length, refl, sym, ap, ◌∙◌, sum_by, mul_assoc, mul_comm, mul-add, add-mul, nat_tests}
use Rattle.plan_model.proofs.Common.{sum_by-cons, Outcome, NetworkModel, IsValid, to_of, arr_of, outcomes, Tree, Done, Ride, Stuck, Kids, Nil, Kid, worst, worst_of, height, height_of, IsSafe}
use Rattle.plan_model.proofs.{Common.{AreSafe, weighted_by, weighted_kids, arrival, num, BelowBy, CoversBy, later_by, all_later_by, deadline_later_by}, Bounds.row_is, Laws.pow_down}
use Rattle.plan_model.specs.Expected.{late}

same_child : (w : ℕ) (t u : Tree) (ks us : Kids) → t ≡ u → ks ≡ us → Kid w t ks ≡ Kid w u us
same_child w t u ks us e f = rw (e, f) refl

mutual
  pub later_by-none : (tree : Tree) → later_by 0 tree ≡ tree
  later_by-none (Done a) = let e : a + 0 ≡ a = omega arith in ap Done e
  later_by-none (Ride i j kids) = ap (Ride i j) (all_later_by-none kids)
  later_by-none (Stuck p x) = let e : x + 0 ≡ x = omega arith in ap (Stuck p) e

  all_later_by-none : (kids : Kids) → all_later_by 0 kids ≡ kids
  all_later_by-none Nil = refl
  all_later_by-none (Kid w tree kids) = same_child w _ _ _ _ (later_by-none tree) (all_later_by-none kids)

pub deadline-none : (by : Option ℕ) → deadline_later_by 0 by ≡ by
deadline-none by = grind arith

-- the tree with all moments less by a shift
abbrev mutual
  sooner_by : ℕ → Tree → Tree
  sooner_by shift (Done a) = Done (a - shift)
  sooner_by shift (Ride i j kids) = Ride i j (all_sooner_by shift kids)
  sooner_by shift (Stuck p x) = Stuck p (x - shift)

  all_sooner_by : ℕ → Kids → Kids
  all_sooner_by shift Nil = Nil
  all_sooner_by shift (Kid w tree kids) = Kid w (sooner_by shift tree) (all_sooner_by shift kids)

mutual
  undone : (shift : ℕ) (tree : Tree) → sooner_by shift (later_by shift tree) ≡ tree
  undone shift (Done a) = let e : a + shift - shift ≡ a = omega arith in ap Done e
  undone shift (Ride i j kids) = ap (Ride i j) (all_undone shift kids)
  undone shift (Stuck p x) = let e : x + shift - shift ≡ x = omega arith in ap (Stuck p) e

  all_undone : (shift : ℕ) (kids : Kids) → all_sooner_by shift (all_later_by shift kids) ≡ kids
  all_undone shift Nil = refl
  all_undone shift (Kid w tree kids) = same_child w _ _ _ _ (undone shift tree) (all_undone shift kids)

-- no two trees have one later tree
pub later_by-same : (shift : ℕ) (t u : Tree) → later_by shift t ≡ later_by shift u → t ≡ u
later_by-same shift t u e = sym (undone shift t) ∙ ap (sooner_by shift) e ∙ undone shift u

mutual
  pub height-later : (shift : ℕ) (tree : Tree) → height (later_by shift tree) ≡ height tree
  height-later shift (Done a) = refl
  height-later shift (Ride i j kids) = ap (λ (k : ℕ). k + 1) (heights-later shift kids)
  height-later shift (Stuck p x) = refl

  heights-later : (shift : ℕ) (kids : Kids) → height_of (all_later_by shift kids) ≡ height_of kids
  heights-later shift Nil = refl
  heights-later shift (Kid w tree kids) = let e = height-later shift tree in let f = heights-later shift kids in rw (e, f) refl

-- a mean over the later tree is that of what leaf gives later
module _ (shift : ℕ) (f g : ℕ → ℕ) (same : (a : ℕ) → f (a + shift) ≡ g a) where
  mutual
    pub weighted_by-later : (tree : Tree) (h : ℕ) → weighted_by f (later_by shift tree) h ≡ weighted_by g tree h
    weighted_by-later (Done a) h = ap (λ (k : ℕ). k * 10000 ^ h) (same a)
    weighted_by-later (Ride i j kids) h = weighted_kids-later kids (h - 1)
    weighted_by-later (Stuck p x) h = refl

    weighted_kids-later : (kids : Kids) (h : ℕ) → weighted_kids f (all_later_by shift kids) h ≡ weighted_kids g kids h
    weighted_kids-later Nil h = refl
    weighted_kids-later (Kid w tree kids) h = let e = weighted_by-later tree h in let k = weighted_kids-later kids h in rw (e, k) refl

  module _ (scale bound : ℕ) (tree : Tree) where
    pub below-later : BelowBy scale g bound tree → BelowBy scale f bound (later_by shift tree)
    below-later below h tall = let e = height-later shift tree in rw (weighted_by-later tree h) (below h (omega arith))

    pub below-sooner : BelowBy scale f bound (later_by shift tree) → BelowBy scale g bound tree
    below-sooner below h tall = let e = height-later shift tree in rw (← weighted_by-later tree h) (below h (omega arith))

    pub covers-later : CoversBy scale g bound tree → CoversBy scale f bound (later_by shift tree)
    covers-later covers h tall = let e = height-later shift tree in rw (weighted_by-later tree h) (covers h (omega arith))

    pub covers-sooner : CoversBy scale f bound (later_by shift tree) → CoversBy scale g bound tree
    covers-sooner covers h tall = let e = height-later shift tree in rw (← weighted_by-later tree h) (covers h (omega arith))

-- an arrival is late for a promise exactly where it is late by the shift later for a promise by the shift later
pub late-later : (shift promise a : ℕ) → late (promise + shift) (a + shift) ≡ late promise a
late-later shift promise a = grind (arith, nat_tests)

-- the worst arrival of a safe tree is later by the shift
module _ (n : NetworkModel) (v : IsValid n) (target : ℕ) (by : Option ℕ) (shift : ℕ) where
  mutual
    pub worst-later : (tree : Tree) (p x : ℕ) → IsSafe n target by tree p x → worst (later_by shift tree) ≡ worst tree + shift
    worst-later (Done a) p x h = refl
    worst-later (Ride i j kids) p x h = worsts-later kids (outcomes n j) (to_of n j) (arr_of n j) (row_is n v j h.1.exit).some h.3
    worst-later (Stuck q y) p x h = absurd h

    worsts-later : (kids : Kids) (row : List Outcome) (p a : ℕ) → 0 < length row → AreSafe n target by kids row p a → worst_of (all_later_by shift kids) ≡ worst_of kids + shift
    worsts-later Nil [] p a some h = absurd (omega arith)
    worsts-later Nil (o ∷ os) p a some h = absurd h
    worsts-later (Kid w tree kids) [] p a some h = absurd h
    worsts-later (Kid w tree Nil) (o ∷ os) p a some h = omega (arith, worst-later tree p (a + o.delay) h.1)
    worsts-later (Kid w tree (Kid v t kids)) (o ∷ []) p a some h = absurd h.2
    worsts-later (Kid w tree (Kid v t kids)) (o ∷ o' ∷ os) p a some h = omega (arith, worst-later tree p (a + o.delay) h.1, worsts-later (Kid v t kids) (o' ∷ os) p a (omega arith) h.2)

one_child : (w a c p b s : ℕ) → w * (a + c * p) + (b + c * p * s) ≡ w * a + b + c * p * (w + s)
one_child w a c p b s = grind (arith, mul-add, mul_comm)

whole_row : (c p q s : ℕ) → s ≡ 10000 → q ≡ p * 10000 → c * p * s ≡ c * q
whole_row c p q s e f = rw (e, f) (mul_assoc c p 10000)

-- the expected arrival of a safe tree is later by the shift
module _ (n : NetworkModel) (v : IsValid n) (target : ℕ) (by : Option ℕ) (shift : ℕ) where
  mutual
    pub num-later : (tree : Tree) (p x h : ℕ) → IsSafe n target by tree p x → height tree ≤ h → num (later_by shift tree) h ≡ num tree h + shift * 10000 ^ h
    num-later (Done a) p x h safe tall = add-mul a shift (10000 ^ h)
    num-later (Ride i j kids) p x h safe tall =
        nums-later kids (outcomes n j) (to_of n j) (arr_of n j) (h - 1) safe.3 (omega arith)
        ∙ ap (λ (k : ℕ). weighted_kids arrival kids (h - 1) + k) (whole_row shift (10000 ^ (h - 1)) (10000 ^ h) _ (row_is n v j safe.1.exit).total (pow_down h (omega arith)))
    num-later (Stuck q y) p x h safe tall = absurd safe

    nums-later : (kids : Kids) (row : List Outcome) (p a h : ℕ) → AreSafe n target by kids row p a → height_of kids ≤ h
        → weighted_kids arrival (all_later_by shift kids) h ≡ weighted_kids arrival kids h + shift * 10000 ^ h * sum_by (λ o. o.weight) row
    nums-later Nil [] p a h safe tall = omega arith
    nums-later Nil (o ∷ os) p a h safe tall = absurd safe
    nums-later (Kid w tree kids) [] p a h safe tall = absurd safe
    nums-later (Kid w tree kids) (o ∷ os) p a h safe tall =
        let weight = safe.0 in
        let one = num-later tree p (a + o.delay) h safe.1 (omega arith) in
        let others = nums-later kids os p a h safe.2 (omega arith) in
        rw (sum_by-cons (λ o. o.weight) o os, one, others, weight) (one_child o.weight (num tree h) shift (10000 ^ h) (weighted_kids arrival kids h) (sum_by (λ o. o.weight) os))

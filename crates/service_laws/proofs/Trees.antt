-- What two strategies of one form have to do with each other.
use Rattle.service_laws.proofs.Common.{◌≡◌, ℕ, ◌+◌, ◌*◌, ◌-◌, ◌^◌, ◌≤◌, arith, ap, refl, mul-le-mul_left, mul-le-mul_right, Tree, Done, Ride, Kids, Nil, Kid, worst, worst_of, height, height_of}
use Rattle.service_laws.proofs.Common.{weighted_by, weighted_kids, Rises, IsNoWorse, IsAsGood}

abbrev mutual
  -- strategies of one form, with the same weights, which always arrive; R holds of their arrivals
  pub Compare : (ℕ → ℕ → Type 0) → Tree → Tree → Type 0
  Compare R (Done a) (Done b) = R a b
  Compare R (Ride i j kids) (Ride k l others) = CompareAll R kids others
  Compare R _ _ = ⊥

  pub CompareAll : (ℕ → ℕ → Type 0) → Kids → Kids → Type 0
  CompareAll R Nil Nil = Unit {0}
  CompareAll R (Kid w tree kids) (Kid v other others) = (w ≡ v) × Compare R tree other × CompareAll R kids others
  CompareAll R _ _ = ⊥

module _ (R : ℕ → ℕ → Type 0) where
  mutual
    same_height : (t u : Tree) → Compare R t u → height t ≡ height u
    same_height (Done a) (Done b) c = refl
    same_height (Ride i j kids) (Ride k l others) c = ap (λ (h : ℕ). h + 1) (same_height_of kids others c)
    same_height _ _ c = absurd c

    same_height_of : (kids others : Kids) → CompareAll R kids others → height_of kids ≡ height_of others
    same_height_of Nil Nil c = refl
    same_height_of (Kid w t kids) (Kid v u others) c = omega (arith, same_height t u c.1, same_height_of kids others c.2)
    same_height_of _ _ c = absurd c

  mutual
    -- the other way round, by a relation that follows
    turned : (S : ℕ → ℕ → Type 0) → ((a b : ℕ) → R a b → S b a) → (t u : Tree) → Compare R t u → Compare S u t
    turned S turn (Done a) (Done b) c = turn a b c
    turned S turn (Ride i j kids) (Ride k l others) c = all_turned S turn kids others c
    turned S turn _ _ c = absurd c

    all_turned : (S : ℕ → ℕ → Type 0) → ((a b : ℕ) → R a b → S b a) → (kids others : Kids) → CompareAll R kids others → CompareAll S others kids
    all_turned S turn Nil Nil c = c
    all_turned S turn (Kid w t kids) (Kid v u others) c = (omega (arith, c.0), turned S turn t u c.1, all_turned S turn kids others c.2)
    all_turned S turn _ _ c = absurd c

abbrev pub NoLater : ℕ → ℕ → Type 0
NoLater a b = a ≤ b

abbrev pub Same : ℕ → ℕ → Type 0
Same a b = a ≡ b

mutual
  worst_kept : (t u : Tree) → Compare NoLater t u → worst t ≤ worst u
  worst_kept (Done a) (Done b) c = c
  worst_kept (Ride i j kids) (Ride k l others) c = worst_of_kept kids others c
  worst_kept _ _ c = absurd c

  worst_of_kept : (kids others : Kids) → CompareAll NoLater kids others → worst_of kids ≤ worst_of others
  worst_of_kept Nil Nil c = omega arith
  worst_of_kept (Kid w t kids) (Kid v u others) c = omega (arith, worst_kept t u c.1, worst_of_kept kids others c.2)
  worst_of_kept _ _ c = absurd c

pub weighed : (w v x y s t : ℕ) → w ≡ v → x ≤ y → s ≤ t → w * x + s ≤ v * y + t
weighed w v x y s t e here rest = rw e (omega (arith, mul-le-mul_left v here, rest))

module _ (leaf : ℕ → ℕ) (rises : Rises leaf) where
  mutual
    mean_kept : (t u : Tree) (h : ℕ) → Compare NoLater t u → weighted_by leaf t h ≤ weighted_by leaf u h
    mean_kept (Done a) (Done b) h c = mul-le-mul_right (10000 ^ h) (rises a b c)
    mean_kept (Ride i j kids) (Ride k l others) h c = mean_of_kept kids others (h - 1) c
    mean_kept _ _ h c = absurd c

    mean_of_kept : (kids others : Kids) (h : ℕ) → CompareAll NoLater kids others → weighted_kids leaf kids h ≤ weighted_kids leaf others h
    mean_of_kept Nil Nil h c = omega arith
    mean_of_kept (Kid w t kids) (Kid v u others) h c =
        weighed w v (weighted_by leaf t h) (weighted_by leaf u h) (weighted_kids leaf kids h) (weighted_kids leaf others h)
        c.0 (mean_kept t u h c.1) (mean_of_kept kids others h c.2)
    mean_of_kept _ _ h c = absurd c

module _ (leaf : ℕ → ℕ) where
  mutual
    mean_same : (t u : Tree) (h : ℕ) → Compare Same t u → weighted_by leaf t h ≡ weighted_by leaf u h
    mean_same (Done a) (Done b) h c = ap (λ (m : ℕ). leaf m * 10000 ^ h) c
    mean_same (Ride i j kids) (Ride k l others) h c = mean_of_same kids others (h - 1) c
    mean_same _ _ h c = absurd c

    mean_of_same : (kids others : Kids) (h : ℕ) → CompareAll Same kids others → weighted_kids leaf kids h ≡ weighted_kids leaf others h
    mean_of_same Nil Nil h c = refl
    mean_of_same (Kid w t kids) (Kid v u others) h c = rw (c.0, mean_same t u h c.1, mean_of_same kids others h c.2) refl
    mean_of_same _ _ h c = absurd c

pub no_worse : (t u : Tree) → Compare NoLater t u → IsNoWorse t u
no_worse t u c = record { same_height = same_height NoLater t u c; worst = worst_kept t u c; mean = λ leaf power rises. mean_kept leaf rises t u power c }

pub as_good : (t u : Tree) → Compare Same t u → IsAsGood t u
as_good t u c =
    let there = worst_kept u t (turned Same NoLater (λ a b e. omega (arith, e)) t u c) in
    let twice : Compare Same u t = turned Same Same (λ a b e. omega (arith, e)) t u c in
    let back = worst_kept t u (turned Same NoLater (λ a b e. omega (arith, e)) u t twice) in
    record { same_height = same_height Same t u c; worst = omega (arith, there, back); mean = λ leaf power. mean_same leaf t u power c }

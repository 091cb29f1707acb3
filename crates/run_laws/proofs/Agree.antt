-- Two choices that fix one tree, which is safe, choose the same after each leg in it.
use Rattle.run_laws.proofs.Common.{arith, ◌≡◌, ◌≢◌, ℕ, zero, suc, ◌+◌, List, [], ◌∷◌, Option, Some, None, Contains, sym, subst, inl, inr, ap, cases_eq, eq-eqb, Leg, Outcome, NetworkModel, arr_of}
use Rattle.run_laws.proofs.Common.{ne_eqb, Tree, Done, Ride, Stuck, Kids, Nil, Kid, IsSafe, IsSafeFromStart, AreSafe, end_of, arrival_of, outcomes_of, kids_after, ride_of, ride_or_stuck}
use Rattle.run_laws.proofs.Common.{unfold_after, unfold_from, Stands, StandsIn, Contains-nil, Contains-head, Contains-tail, Contains-cons_cases}
use Rattle.plan_graph.proofs.{Searches.same_leg, Places.safe_child}

abbrev other_children : Kids → Kids
other_children Nil = Nil
other_children (Kid weight tree others) = others

-- children that are the same are so one by one
child_same : (f g : ℕ → Tree) (row : List Outcome) (scheduled : ℕ) → kids_after f scheduled row ≡ kids_after g scheduled row → (o : Outcome) → Contains row o
    → f (scheduled + o.delay) ≡ g (scheduled + o.delay)
child_same f g [] scheduled same o has = absurd (Contains-nil o has)
child_same f g (head ∷ row) scheduled same o has = grind (arith, Contains-cons_cases, child_same f g row scheduled (ap other_children same) o)

-- what is in the children is in the tree after an outcome
stands_after : (f : ℕ → Tree) (row : List Outcome) (scheduled : ℕ) (other : Leg) → StandsIn other (kids_after f scheduled row)
    → (o : Outcome) × Contains row o × Stands other (f (scheduled + o.delay))
stands_after f [] scheduled other there = absurd there
stands_after f (head ∷ row) scheduled other (inl here) = (head, Contains-head head row, here)
stands_after f (head ∷ row) scheduled other (inr more) = grind (arith, Contains-tail, stands_after f row scheduled other more)

abbrev enter_of : Tree → ℕ
enter_of (Done moment) = 0
enter_of (Ride i j kids) = i
enter_of (Stuck place moment) = 0

abbrev exit_of : Tree → ℕ
exit_of (Done moment) = 0
exit_of (Ride i j kids) = j
exit_of (Stuck place moment) = 0

abbrev children_in : Tree → Kids
children_in (Done moment) = Nil
children_in (Ride i j kids) = kids
children_in (Stuck place moment) = Nil

-- the first rides of one tree are of one leg
one_leg : (n : NetworkModel) (f g : Leg → ℕ → Tree) (a b : Option Leg) (place x : ℕ) → ride_or_stuck n f a place x ≡ ride_or_stuck n g b place x → a ≡ b
one_leg n f g a b place x same = grind (arith, same_leg)

module _ (n : NetworkModel) (target : ℕ) (c d : Leg → ℕ → Option Leg) where
  -- after each outcome of a leg that does not end at the target both choose the same
  abbrev pub Agrees : Leg → Type 0
  Agrees leg = end_of n leg ≢ target → (o : Outcome) → Contains (outcomes_of n leg) o → c leg (arrival_of n leg o.delay) ≡ d leg (arrival_of n leg o.delay)

  pub start_same : (a b : Option Leg) (p x : ℕ) → p ≢ target → unfold_from n target c a p x ≡ unfold_from n target d b p x → a ≡ b
  start_same a b p x away same = grind (arith, one_leg, ne_eqb)

  module _ (by : Option ℕ) where
    next_same : (rides : ℕ) (leg : Leg) (x : ℕ) → end_of n leg ≢ target → unfold_after n target c rides leg x ≡ unfold_after n target d rides leg x
        → IsSafe n target by (unfold_after n target c rides leg x) (end_of n leg) x → c leg x ≡ d leg x
    next_same rides leg x away same safe = grind (arith, ne_eqb, one_leg)

    -- over that number of further rides they agree after each leg in it
    abbrev AgreeOver : ℕ → Type 0
    AgreeOver rides = (leg : Leg) (x : ℕ) → unfold_after n target c rides leg x ≡ unfold_after n target d rides leg x
        → IsSafe n target by (unfold_after n target c rides leg x) (end_of n leg) x → (other : Leg) → Stands other (unfold_after n target c rides leg x) → Agrees other

    agree_ride : (rides : ℕ) → AgreeOver rides → (leg : Leg) → ride_of n (unfold_after n target c rides) leg ≡ ride_of n (unfold_after n target d rides) leg
        → AreSafe n target by (kids_after (unfold_after n target c rides leg) (arr_of n leg.exit.0) (outcomes_of n leg)) (outcomes_of n leg) (end_of n leg) (arr_of n leg.exit.0)
        → (other : Leg) → Stands other (ride_of n (unfold_after n target c rides) leg) → Agrees other
    agree_ride rides over leg same safe other stands =
        let f = unfold_after n target c rides leg in
        let g = unfold_after n target d rides leg in
        let child : (o : Outcome) → Contains (outcomes_of n leg) o → f (arrival_of n leg o.delay) ≡ g (arrival_of n leg o.delay)
        = child_same f g (outcomes_of n leg) (arr_of n leg.exit.0) (ap children_in same) in
        let child_safe = safe_child n target by c f (outcomes_of n leg) (end_of n leg) (arr_of n leg.exit.0) safe in
        elim stands [
          | inl is ↦ subst Agrees (sym (same_leg other leg is.0 is.1))
              (λ away o has. next_same rides leg (arrival_of n leg o.delay) away (child o has) (child_safe o has))
          | inr below ↦ grind (arith, stands_after)
        ]

    agree_by : (rides : ℕ) → AgreeOver rides → (a b : Option Leg) (place x : ℕ)
        → ride_or_stuck n (unfold_after n target c rides) a place x ≡ ride_or_stuck n (unfold_after n target d rides) b place x
        → IsSafe n target by (ride_or_stuck n (unfold_after n target c rides) a place x) place x
        → (other : Leg) → Stands other (ride_or_stuck n (unfold_after n target c rides) a place x) → Agrees other
    agree_by rides over None b place x same safe other stands = absurd stands
    agree_by rides over (Some a) None place x same safe other stands = absurd (cc)
    agree_by rides over (Some a) (Some b) place x same safe other stands = grind (arith, same_leg a b (ap enter_of same) (ap exit_of same), agree_ride rides over a)

    pub agree_over : (rides : ℕ) → AgreeOver rides
    agree_over zero leg x same safe other stands = grind (arith, cases_eq, eq-eqb, ne_eqb)
    agree_over (suc rides) leg x same safe other stands = elim (cases_eq (end_of n leg) target) [
      | inl is ↦ absurd (rw (eq-eqb (end_of n leg) target is) at stands)
      | inr away ↦
          let test = ne_eqb (end_of n leg) target away in
          agree_by rides (agree_over rides) (c leg x) (d leg x) (end_of n leg) x (rw test at same) (rw test at safe) other (rw test at stands)
    ]

    -- from a start leg on they agree after each leg in it
    pub agree_from : (start : Leg) (p x : ℕ) → p ≢ target → unfold_from n target c (Some start) p x ≡ unfold_from n target d (Some start) p x
        → IsSafeFromStart n target by (unfold_from n target c (Some start) p x) p x
        → (other : Leg) → Stands other (unfold_from n target c (Some start) p x) → Agrees other
    agree_from start p x away same safe other stands = grind (arith, ne_eqb, agree_ride, agree_over)

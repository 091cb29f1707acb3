-- What is safe in a network is safe in a view of it, and the other way round.
use Rattle.plan_model.proofs.Common.{◌≡◌, ℕ, ◌+◌, ◌<◌, ◌≤◌, arith, Option, Some, List, [], ◌∷◌, length, refl, sym, ap, ◌∙◌, Outcome, NetworkModel, IsValid, count, connection, from_of, to_of}
use Rattle.plan_model.proofs.Common.{dep_of, arr_of, row_of, outcomes, way_of, Tree, Done, Ride, Stuck, Kids, Nil, Kid, IsLeg, IsBoardable, IsBoardableAtStart, IsInTime, IsSafe, AreSafe}
use Rattle.plan_model.proofs.{Common.{IsSafeFromStart, later_by, all_later_by, deadline_later_by, IsSeen, IsView, SafeAlike, nat_tests, common_steps}, Bounds.forward, Later.later_by-same}

in_time_there : (shift : ℕ) (by : Option ℕ) (x : ℕ) → IsInTime by x → IsInTime (deadline_later_by shift by) (x + shift)
in_time_there shift by x h = grind arith

in_time_back : (shift : ℕ) (by : Option ℕ) (x : ℕ) → IsInTime (deadline_later_by shift by) (x + shift) → IsInTime by x
in_time_back shift by x h = grind arith

same_all : (n : NetworkModel) (target : ℕ) (by : Option ℕ) (kids : Kids) (r s : List Outcome) (p q a b : ℕ) → r ≡ s → p ≡ q → a ≡ b → AreSafe n target by kids r p a → AreSafe n target by kids s q b
same_all n target by kids r s p q a b e f g h = rw (← e, ← f, ← g) h

module _ (n m : NetworkModel) (shift first : ℕ) (view : IsView n m shift first) (valid : IsValid m) where
  pub seen : (i : ℕ) → i < count m → IsSeen shift first (connection n i) (connection m i)
  seen i h = view.connections i h

  pub same_outcomes : (j : ℕ) → j < count m → outcomes n j ≡ outcomes m j
  unfolding row_of
  same_outcomes j h = let e = (seen j h).class in let f = view.classes in rw (e, f) refl

  pub same_way : (p i seconds : ℕ) → p < length m.change → i < count m → way_of n p (from_of n i) ≡ Some seconds → way_of m p (from_of m i) ≡ Some seconds
  same_way p i seconds inside h way = grind (arith, seen)

  -- a leg of the view is one of the network, which departs from the first moment on
  pub leg_there : (i j : ℕ) → IsLeg n i j → IsLeg m i j × (first ≤ dep_of m i)
  leg_there i j leg = grind (arith, common_steps, nat_tests, seen)

  pub leg_back : (i j : ℕ) → IsLeg m i j → first ≤ dep_of m i → IsLeg n i j
  leg_back i j leg late = grind (arith, common_steps, nat_tests, seen)

  -- a leg departs and arrives by the shift later
  pub departs : (i j : ℕ) → IsLeg m i j → first ≤ dep_of m i → dep_of n i + shift ≡ dep_of m i
  departs i j leg late = (seen i leg.enter).departs late

  pub arrives : (i j : ℕ) → IsLeg m i j → first ≤ dep_of m i → arr_of n j + shift ≡ arr_of m j
  arrives i j leg late = (seen j leg.exit).arrives (omega (arith, late, forward m valid i j leg))

  -- where a leg of the view ends
  ends_inside : (j : ℕ) → j < count m → to_of n j < length m.change
  ends_inside j h = omega (arith, (seen j h).to, (valid.connections j h).to_in)

  -- what is safe after a leg, in the terms of the view and in those of the network
  module _ (target : ℕ) (by : Option ℕ) (i j : ℕ) (leg : IsLeg m i j) (late : first ≤ dep_of m i) (kids : Kids) where
    reported_there : AreSafe m target by kids (outcomes n j) (to_of n j) (arr_of n j + shift) → AreSafe m target by kids (outcomes m j) (to_of m j) (arr_of m j)
    reported_there h = same_all m target by kids _ _ _ _ _ _ (same_outcomes j leg.exit) (seen j leg.exit).to (arrives i j leg late) h

    reported_back : AreSafe m target by kids (outcomes m j) (to_of m j) (arr_of m j) → AreSafe m target by kids (outcomes n j) (to_of n j) (arr_of n j + shift)
    reported_back h = same_all m target by kids _ _ _ _ _ _ (sym (same_outcomes j leg.exit)) (sym (seen j leg.exit).to) (sym (arrives i j leg late)) h

  module _ (target : ℕ) (by : Option ℕ) where
    abbrev later : Option ℕ
    later = deadline_later_by shift by

    board_there : (p x i j : ℕ) → p < length m.change → IsLeg m i j → first ≤ dep_of m i → IsBoardable n p x i → IsBoardable m p (x + shift) i
    board_there p x i j inside leg late b = grind (arith, same_way, departs)

    board_back : (p x i j : ℕ) → p < length m.change → IsLeg m i j → first ≤ dep_of m i → IsBoardable m p (x + shift) i → IsBoardable n p x i
    board_back p x i j inside leg late b = grind (arith, seen, departs)

    mutual
      -- what is safe in the view is safe in the network by the shift later
      pub safe_there : (tree : Tree) (p x : ℕ) → p < length m.change → IsSafe n target by tree p x → IsSafe m target later (later_by shift tree) p (x + shift)
      safe_there (Done a) p x inside h = (ap (λ (k : ℕ). k + shift) h.0, h.1, in_time_there shift by x h.2)
      safe_there (Ride i j kids) p x inside h =
          let leg = leg_there i j h.1 in
          let children_safe = all_there kids (outcomes n j) (to_of n j) (arr_of n j) (ends_inside j leg.0.exit) h.3 in
          (h.0, leg.0, board_there p x i j inside leg.0 leg.1 h.2, reported_there target later i j leg.0 leg.1 (all_later_by shift kids) children_safe)
      safe_there (Stuck q y) p x inside h = absurd h

      all_there : (kids : Kids) (row : List Outcome) (p a : ℕ) → p < length m.change → AreSafe n target by kids row p a → AreSafe m target later (all_later_by shift kids) row p (a + shift)
      all_there Nil [] p a inside h = tt
      all_there Nil (o ∷ os) p a inside h = absurd h
      all_there (Kid w tree kids) [] p a inside h = absurd h
      all_there (Kid w tree kids) (o ∷ os) p a inside h =
          let turned : a + o.delay + shift ≡ a + shift + o.delay = omega arith in
          let one = safe_there tree p (a + o.delay) inside h.1 in
          (h.0, rw turned at one, all_there kids os p a inside h.2)

    -- a tree that is the later one of a safe tree
    abbrev pub Comes : Tree → (p x : ℕ) → Type 0
    Comes u p x = (tree : Tree) × (later_by shift tree ≡ u) × IsSafe n target by tree p x

    abbrev AllCome : Kids → List Outcome → (p a : ℕ) → Type 0
    AllCome us row p a = (kids : Kids) × (all_later_by shift kids ≡ us) × AreSafe n target by kids row p a

    late_leg : (p x i j : ℕ) → first ≤ x + shift → IsBoardable m p (x + shift) i → first ≤ dep_of m i
    late_leg p x i j late b = omega (arith, b.in_time)

    mutual
      -- from the first moment on, what is safe in the network comes from what is safe in the view
      pub safe_back : (u : Tree) (p x : ℕ) → p < length m.change → first ≤ x + shift → IsSafe m target later u p (x + shift) → Comes u p x
      safe_back (Done a) p x inside late h = (Done x, ap Done (sym h.0), (refl, h.1, in_time_back shift by x h.2))
      safe_back (Ride i j us) p x inside late h =
          let leg = h.1 in
          let open_leg = late_leg p x i j late h.2 in
          let arrival = arrives i j leg open_leg in
          let onward = forward m valid i j leg in
          let reported = reported_back target later i j leg open_leg us h.3 in
          let kids = all_back us (outcomes n j) (to_of n j) (arr_of n j) (ends_inside j leg.exit) (omega (arith, arrival, onward, open_leg)) reported in
          (Ride i j kids.0, ap (Ride i j) kids.1, (h.0, leg_back i j leg open_leg, board_back p x i j inside leg open_leg h.2, kids.2))
      safe_back (Stuck q y) p x inside late h = absurd h

      all_back : (us : Kids) (row : List Outcome) (p a : ℕ) → p < length m.change → first ≤ a + shift → AreSafe m target later us row p (a + shift) → AllCome us row p a
      all_back Nil [] p a inside late h = (Nil, refl, tt)
      all_back Nil (o ∷ os) p a inside late h = absurd h
      all_back (Kid w u us) [] p a inside late h = absurd h
      all_back (Kid w u us) (o ∷ os) p a inside late h =
          let turned : a + shift + o.delay ≡ a + o.delay + shift = omega arith in
          let safe = h.1 in
          let one = safe_back u p (a + o.delay) inside (omega arith) (rw turned at safe) in
          let others = all_back us os p a inside late h.2 in
          let same : Kid w (later_by shift one.0) (all_later_by shift others.0) ≡ Kid w u us = let e = one.1 in let f = others.1 in rw (e, f) refl in
          (Kid w one.0 others.0, same, (h.0, one.2, others.2))

    -- the same of who sets out at a start
    pub start_there : (tree : Tree) (source x : ℕ) → IsSafeFromStart n target by tree source x → IsSafeFromStart m target later (later_by shift tree) source (x + shift)
    start_there tree source x h = grind (arith, in_time_there, leg_there, all_there, ends_inside, reported_there)

    abbrev pub ComesFrom : Tree → (source x : ℕ) → Type 0
    ComesFrom u source x = (tree : Tree) × (later_by shift tree ≡ u) × IsSafeFromStart n target by tree source x

    pub start_back : (u : Tree) (source x : ℕ) → first ≤ x + shift → IsSafeFromStart m target later u source (x + shift) → ComesFrom u source x
    start_back (Done a) source x late h = (Done x, ap Done (sym h.0), (refl, h.1, in_time_back shift by x h.2))
    start_back (Ride i j us) source x late h =
        let leg = h.1 in
        let open_leg : first ≤ dep_of m i = omega (arith, h.2.1) in
        let arrival = arrives i j leg open_leg in
        let onward = forward m valid i j leg in
        let reported = reported_back target later i j leg open_leg us h.3 in
        let kids = all_back us (outcomes n j) (to_of n j) (arr_of n j) (ends_inside j leg.exit) (omega (arith, arrival, onward, open_leg)) reported in
        let board : IsBoardableAtStart n source x i = ((seen i leg.enter).from ∙ h.2.0, omega (arith, h.2.1, departs i j leg open_leg)) in
        (Ride i j kids.0, ap (Ride i j) kids.1, (h.0, leg_back i j leg open_leg, board, kids.2))
    start_back (Stuck q y) source x late h = absurd h

pub alike : (n m : NetworkModel) (shift first : ℕ) → IsView n m shift first → IsValid m → SafeAlike n m shift first
alike n m shift first view valid = record {
  there = λ target by tree p x inside h. safe_there n m shift first view valid target by tree p x inside h;
  back = λ target by tree p x inside late h.
      let from = safe_back n m shift first view valid target by (later_by shift tree) p x inside late h in
      grind (arith, later_by-same);
  each = λ target by u p x inside late h. let from = safe_back n m shift first view valid target by u p x inside late h in (from.0, from.1);
  start_there = λ target by tree source x h. start_there n m shift first view valid target by tree source x h;
  start_back = λ target by tree source x late h.
      let from = start_back n m shift first view valid target by (later_by shift tree) source x late h in
      grind (arith, later_by-same);
  each_start = λ target by u source x late h. let from = start_back n m shift first view valid target by u source x late h in (from.0, from.1);
}

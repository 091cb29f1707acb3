-- What is kept while legs are reached.
use Rattle.plan_graph.proofs.Common.{◌≡◌, ◌≢◌, ℕ, ◌<◌, ◌⊎◌, Bool, true, false, List, [], ◌∷◌, ◌++◌, map, length, Option, Some, Contains, arith, sym, subst, refl, inl, inr, ◌∙◌, ap, MatchBool}
use Rattle.plan_graph.proofs.Common.{nat_tests, common_steps, list_any, Contains-append_left, Contains-append_right, Contains-append_cases, Contains-push, Contains-push_cases, Contains-from_any}
use Rattle.plan_graph.proofs.Common.{tells_apart, Leg, Query, NetworkModel, count, Tree, arrival_of, unfolding_of, GraphRow, IsSafeForSome, table_after, leg_cmp, with_leg, StandsSafely}
use Rattle.plan_graph.proofs.{Common.{Contains-nil, Contains-map, Contains-from_map}, Sets.{Contains-insert_key, Contains-insert_key_cases, Contains-inserted_key}, Orders.leg_cmp-exact}
use Rattle.plan_graph.proofs.{Places.next_after, Tables.{one_found, table_row}}
use Rattle.std.specs.BTreeMap.{is_at}

-- the leg is to do, or was seen
abbrev pub Known : List Leg → List Leg → Leg → Type 0
Known todo seen leg = Contains todo leg ⊎ Contains seen leg

pub record IsReaching (n : NetworkModel) (target : ℕ) (by : Option ℕ) (choice : Leg → ℕ → Option Leg) (whole : Tree) (start : Leg) (todo : List Leg) (seen : List Leg) : Type 0 where
  pub start_known : Known todo seen start
  pub placed : (leg : Leg) → Known todo seen leg → StandsSafely n target by choice whole leg
  pub closed : (leg : Leg) → Contains seen leg → (row : GraphRow) → Contains (table_after n target choice leg) row → Known todo seen row.leg

pub start_placed : (n : NetworkModel) (q : Query) (choice : Leg → ℕ → Option Leg) (start : Leg) → q.source.0 ≢ q.target.0
    → (safe : IsSafeForSome n q (unfolding_of n q choice (Some start))) → StandsSafely n q.target.0 (Some safe.0) choice (unfolding_of n q choice (Some start)) start
start_placed n q choice start differ safe = grind (arith, common_steps, nat_tests)

module _ (n : NetworkModel) (target : ℕ) (by : Option ℕ) (choice : Leg → ℕ → Option Leg) (whole : Tree) where
  -- the leg of a row of a placed leg's table is placed
  pub placed_row : (leg : Leg) → StandsSafely n target by choice whole leg → (row : GraphRow) → Contains (table_after n target choice leg) row → StandsSafely n target by choice whole row.leg
  placed_row leg placed row has =
      let at = table_row n target choice leg row has in
      let m = at.from_outcome in
      let t = next_after n target by choice whole leg placed at.away m.o m.has in
      let one : t.next ≡ m.next = one_found (choice leg (arrival_of n leg m.o.delay)) t.next m.next t.is_chosen m.is_chosen in
      subst (λ (l : Leg). StandsSafely n target by choice whole l) (one ∙ ap (λ (r : GraphRow). r.leg) (sym m.is)) t.placed

  module _ (start : Leg) where
    pub begin : StandsSafely n target by choice whole start → IsReaching n target by choice whole start (start ∷ []) []
    begin placed = grind (arith, common_steps, nat_tests)

    module _ (todo after : List Leg) (seen : List Leg) (leg : Leg) (old : IsReaching n target by choice whole start (todo ++ leg ∷ []) seen)
        (keeps : (l : Leg) → Contains todo l → Contains after l)
        (only : (l : Leg) → Contains after l → Contains todo l ⊎ StandsSafely n target by choice whole l)
        (leg_closed : (row : GraphRow) → Contains (table_after n target choice leg) row → Contains after row.leg ⊎ Known (todo ++ leg ∷ []) seen row.leg) where
      known_on : (l : Leg) → Known (todo ++ leg ∷ []) seen l → Known after (with_leg seen leg) l
      known_on l (inl has) = elim (Contains-push_cases todo leg l has) [
        | inl a ↦ inl (keeps l a)
        | inr is ↦ inr (subst (λ (z : Leg). Contains (with_leg seen leg) z) is (Contains-inserted_key leg_cmp leg_cmp-exact seen leg))
      ]
      known_on l (inr has) = inr (Contains-insert_key leg_cmp seen leg l has)

      all_placed : (l : Leg) → Known after (with_leg seen leg) l → StandsSafely n target by choice whole l
      all_placed l (inl has) = elim (only l has) [
        | inl a ↦ old.placed l (inl (Contains-append_left todo (leg ∷ []) l a))
        | inr b ↦ b
      ]
      all_placed l (inr has) = elim (Contains-insert_key_cases leg_cmp seen leg l has) [
        | inl a ↦ old.placed l (inr a)
        | inr is ↦ subst (λ (z : Leg). StandsSafely n target by choice whole z) is (old.placed leg (inl (Contains-push todo leg)))
      ]

      all_closed : (l : Leg) → Contains (with_leg seen leg) l → (row : GraphRow) → Contains (table_after n target choice l) row → Known after (with_leg seen leg) row.leg
      all_closed l has row there = elim (Contains-insert_key_cases leg_cmp seen leg l has) [
        | inl a ↦ known_on row.leg (old.closed l a row there)
        | inr is ↦ elim (leg_closed row (subst (λ (z : Leg). Contains (table_after n target choice z) row) (sym is) there)) [
          | inl h ↦ inl h
          | inr k ↦ known_on row.leg k
        ]
      ]

      stepped : IsReaching n target by choice whole start after (with_leg seen leg)
      stepped = record { start_known = known_on start old.start_known; placed = all_placed; closed = all_closed }

    visited_by : (todo after : List Leg) (seen : List Leg) (leg : Leg) (test : Bool) → list_any (is_at (leg_cmp leg)) seen ≡ test
        → IsReaching n target by choice whole start (todo ++ leg ∷ []) seen
        → MatchBool test (after ≡ todo) (after ≡ todo ++ map (λ row. row.leg) (table_after n target choice leg))
        → IsReaching n target by choice whole start after (with_leg seen leg)
    visited_by todo after seen leg true is old same =
        stepped todo after seen leg old (λ l has. subst (λ (list : List Leg). Contains list l) (sym same) has) (λ l has. inl (subst (λ (list : List Leg). Contains list l) same has))
        (λ row has. inr (old.closed leg (Contains-from_any (tells_apart leg_cmp-exact) leg seen is) row has))
    visited_by todo after seen leg false is old more =
        let table = table_after n target choice leg in
        let legs = map (λ (row : GraphRow). row.leg) table in
        let placed = old.placed leg (inl (Contains-push todo leg)) in
        stepped todo after seen leg old (λ l has. subst (λ (list : List Leg). Contains list l) (sym more) (Contains-append_left todo legs l has))
        (λ l has. elim (Contains-append_cases todo legs l (subst (λ (list : List Leg). Contains list l) more has)) [
          | inl a ↦ inl a
          | inr b ↦ let found = Contains-from_map (λ (row : GraphRow). row.leg) table l b in
              inr (subst (λ (z : Leg). StandsSafely n target by choice whole z) found.2 (placed_row leg placed found.0 found.1))
        ])
        (λ row has. inl (subst (λ (list : List Leg). Contains list row.leg) (sym more) (Contains-append_right todo legs row.leg (Contains-map (λ (r : GraphRow). r.leg) table row has))))

    -- after a visit
    pub visited : (todo after : List Leg) (seen : List Leg) (leg : Leg)
        → IsReaching n target by choice whole start (todo ++ leg ∷ []) seen
        → MatchBool (list_any (is_at (leg_cmp leg)) seen) (after ≡ todo) (after ≡ todo ++ map (λ row. row.leg) (table_after n target choice leg))
        → IsReaching n target by choice whole start after (with_leg seen leg)
    visited todo after seen leg old moved = visited_by todo after seen leg (list_any (is_at (leg_cmp leg)) seen) refl old moved

    -- before a visit
    pub popped : (all todo : List Leg) (seen : List Leg) (leg : Leg) → IsReaching n target by choice whole start all seen → all ≡ todo ++ leg ∷ []
        → IsReaching n target by choice whole start (todo ++ leg ∷ []) seen
    popped all todo seen leg at is = subst (λ (list : List Leg). IsReaching n target by choice whole start list seen) is at

    pub popped_there : (todo : List Leg) (seen : List Leg) (leg : Leg) → IsReaching n target by choice whole start (todo ++ leg ∷ []) seen → leg.exit.0 < count n
    popped_there todo seen leg at = (at.placed leg (inl (Contains-push todo leg))).is_leg.exit

    -- when nothing remains to do
    pub all_seen : (todo : List Leg) (seen : List Leg) → length todo ≡ 0 → (leg : Leg) → Known todo seen leg → Contains seen leg
    all_seen todo seen done leg known = grind (arith, Contains-nil)

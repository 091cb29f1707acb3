-- The rows of a table, and what they pick.
use Rattle.plan_graph.proofs.Common.{nat_tests, common_steps, ◌≡◌, ◌≢◌, ℕ, ◌+◌, ◌≤◌, ◌<◌, List, [], ◌∷◌, map, Option, Some, None, AllPairs, Contains, arith, sym, subst, refl, inl, inr, ◌∙◌, ap}
use Rattle.plan_graph.proofs.Common.{cases_lt, cases_eq, eq-eqb, le-leb, lt-leb, Leg, Outcome, NetworkModel, arr_of, limit_of, end_of, outcomes_of, GraphRow, pick_row, IsFirstInTime, MayPrecede}
use Rattle.plan_graph.proofs.Common.{pick_in_time, row_by, with_row, rows_for, table_after, Contains-nil, Contains-head, Contains-tail, Contains-cons_cases, AllPairs-nil, AllPairs-head}
use Rattle.plan_graph.proofs.{Common.{AllPairs-tail, AllPairs-with}, Picked.{pick_here, pick_further}}
use Rattle.std.proofs.lemmas.Bool.{ne_eqb}

-- what is found is one thing
pub one_found : {A : Type 0} (found : Option A) (a b : A) → found ≡ Some a → found ≡ Some b → a ≡ b
one_found found a b one other = let both = sym one ∙ other in cc

pub first_pick : (rows : List GraphRow) (x : ℕ) (row : GraphRow) → IsFirstInTime rows x row → pick_row rows x ≡ Some row.leg
first_pick [] x row f = absurd f
first_pick (head ∷ rows) x row (inl both) = pick_here head rows x both.0 ∙ ap (λ (r : GraphRow). Some r.leg) (sym both.1)
first_pick (head ∷ rows) x row (inr both) = pick_further head rows x both.0 ∙ first_pick rows x row both.1

-- the first row is there, and not before the moment
pub first_there : (rows : List GraphRow) (x : ℕ) (row : GraphRow) → IsFirstInTime rows x row → (x ≤ row.by.0) × Contains rows row
first_there [] x row first = absurd first
first_there (head ∷ rows) x row (inl both) = (subst (λ (r : GraphRow). x ≤ r.by.0) (sym both.1) both.0, (0, omega arith, sym both.1))
first_there (head ∷ rows) x row (inr both) = let more = first_there rows x row both.1 in (more.0, Contains-tail head rows row more.1)

-- where a leg is picked, its row is the first
pub picked_first : (rows : List GraphRow) (x : ℕ) (leg : Leg) → pick_row rows x ≡ Some leg → (row : GraphRow) × IsFirstInTime rows x row × (row.leg ≡ leg)
picked_first [] x leg is = absurd (cc)
picked_first (row ∷ rows) x leg is = elim (cases_lt row.by.0 x) [
  | inl late ↦ let found = picked_first rows x leg (sym (pick_further row rows x late) ∙ is) in (found.0, inr (late, found.1), found.2)
  | inr early ↦ (row, inl (early, refl), one_found (pick_row (row ∷ rows) x) row.leg leg (pick_here row rows x early) is)
]

-- and is there
pub picked_there : (rows : List GraphRow) (x : ℕ) (leg : Leg) → pick_row rows x ≡ Some leg → (row : GraphRow) × Contains rows row × (row.leg ≡ leg)
picked_there rows x leg is = let found = picked_first rows x leg is in (found.0, (first_there rows x found.0 found.1).1, found.2)

pub in_time_here : (n : NetworkModel) (place : ℕ) (row : GraphRow) (rows : List GraphRow) (x limit : ℕ) → limit_of n place row.leg ≡ Some limit → x ≤ limit
    → pick_in_time n place (row ∷ rows) x ≡ Some row.leg
in_time_here n place row rows x limit is early = rw (is, le-leb x limit early) refl

pub in_time_next : (n : NetworkModel) (place : ℕ) (row : GraphRow) (rows : List GraphRow) (x limit : ℕ) → limit_of n place row.leg ≡ Some limit → limit < x
    → pick_in_time n place (row ∷ rows) x ≡ pick_in_time n place rows x
in_time_next n place row rows x limit is late = rw (is, lt-leb x limit late) refl

-- what is chosen at an arrival can be reached, and is chosen at each later arrival of the outcomes up to its limit
pub record IsChosenAt (n : NetworkModel) (place : ℕ) (choice : ℕ → Option Leg) (scheduled : ℕ) (os : List Outcome) (arrival : ℕ) : Type 0 where
  pub next : Leg
  pub is_chosen : choice arrival ≡ Some next
  pub limit : ℕ
  pub is_limit : limit_of n place next ≡ Some limit
  pub in_time : arrival ≤ limit
  pub kept : (o : Outcome) → Contains os o → arrival ≤ scheduled + o.delay → scheduled + o.delay ≤ limit → choice (scheduled + o.delay) ≡ Some next

-- a row of the table comes from an outcome
pub record IsRowOf (choice : ℕ → Option Leg) (scheduled : ℕ) (os : List Outcome) (row : GraphRow) : Type 0 where
  pub o : Outcome
  pub has : Contains os o
  pub next : Leg
  pub is_chosen : choice (scheduled + o.delay) ≡ Some next
  pub is : row ≡ row_by (scheduled + o.delay) next

-- one outcome is sooner than another
abbrev pub Sooner : Outcome → Outcome → Type 0
Sooner a b = a.delay < b.delay

module _ (choice : ℕ → Option Leg) (scheduled : ℕ) where
  wider : (head : Outcome) (os : List Outcome) (row : GraphRow) → IsRowOf choice scheduled os row → IsRowOf choice scheduled (head ∷ os) row
  wider head os row m = record { o = m.o; has = Contains-tail head os m.o m.has; next = m.next; is_chosen = m.is_chosen; is = m.is }

  pub member : (os : List Outcome) (row : GraphRow) → Contains (rows_for choice scheduled os) row → IsRowOf choice scheduled os row
  member [] row has = absurd (Contains-nil row has)
  member (head ∷ os) row has = grind (arith, wider, Contains-cons_cases, Contains-head, member os row)

  -- the table's rows are picked at their own arrivals
  pub first_for : (os : List Outcome) → AllPairs Sooner os → (o : Outcome) → Contains os o → (leg : Leg)
      → choice (scheduled + o.delay) ≡ Some leg → IsFirstInTime (rows_for choice scheduled os) (scheduled + o.delay) (row_by (scheduled + o.delay) leg)
  first_for [] rising o has leg is = absurd (Contains-nil o has)
  first_for (head ∷ os) rising o has leg is = elim (Contains-cons_cases head os o has) [
    | inl same ↦ grind arith
    | inr more ↦
        let less = AllPairs-head Sooner head os rising o more in
        by_found (choice (scheduled + head.delay)) (omega (arith, less)) (first_for os (AllPairs-tail Sooner head os rising) o more leg is)
  ]
    where
      by_found : (found : Option Leg) → scheduled + head.delay < scheduled + o.delay → IsFirstInTime (rows_for choice scheduled os) (scheduled + o.delay) (row_by (scheduled + o.delay) leg)
          → IsFirstInTime (with_row (scheduled + head.delay) found (rows_for choice scheduled os)) (scheduled + o.delay) (row_by (scheduled + o.delay) leg)
      by_found None late more = more
      by_found (Some other) late more = inr (late, more)

  module _ (n : NetworkModel) (place : ℕ) where
    fewer : (head : Outcome) (os : List Outcome) → ((o : Outcome) → Contains (head ∷ os) o → IsChosenAt n place choice scheduled (head ∷ os) (scheduled + o.delay))
        → (o : Outcome) → Contains os o → IsChosenAt n place choice scheduled os (scheduled + o.delay)
    fewer head os each o has =
        let c = each o (Contains-tail head os o has) in
        record { next = c.next; is_chosen = c.is_chosen; limit = c.limit; is_limit = c.is_limit; in_time = c.in_time; kept = λ u there. c.kept u (Contains-tail head os u there) }

    -- the first row that is in time has the leg that is chosen
    pub in_time_for : (os : List Outcome) → AllPairs Sooner os
        → ((o : Outcome) → Contains os o → IsChosenAt n place choice scheduled os (scheduled + o.delay)) → (o : Outcome) → Contains os o → (leg : Leg)
        → choice (scheduled + o.delay) ≡ Some leg → pick_in_time n place (rows_for choice scheduled os) (scheduled + o.delay) ≡ Some leg
    in_time_for [] rising each o has leg is = absurd (Contains-nil o has)
    in_time_for (head ∷ os) rising each o has leg is =
        let first = each head (Contains-head head os) in
        let row = row_by (scheduled + head.delay) first.next in
        let x = scheduled + o.delay in
        rw first.is_chosen (elim (Contains-cons_cases head os o has) [
          | inl same ↦ grind (arith, in_time_here)
          | inr more ↦
              let less = AllPairs-head Sooner head os rising o more in
              elim (cases_lt first.limit x) [
                | inl late ↦ in_time_next n place row (rows_for choice scheduled os) x first.limit first.is_limit late
                    ∙ in_time_for os (AllPairs-tail Sooner head os rising) (fewer head os each) o more leg is
                | inr early ↦ in_time_here n place row (rows_for choice scheduled os) x first.limit first.is_limit early
                    ∙ sym (first.kept o (Contains-tail head os o more) (omega (arith, less)) early) ∙ is
              ]
        ])

    before_row : (os : List Outcome) (x : ℕ) (c : IsChosenAt n place choice scheduled os x) (o : Outcome) → Contains os o → x < scheduled + o.delay
        → IsChosenAt n place choice scheduled os (scheduled + o.delay) → (next : Leg) → choice (scheduled + o.delay) ≡ Some next
        → MayPrecede n place (row_by x c.next) (row_by (scheduled + o.delay) next)
    before_row os x c o has later other next is = grind (arith, common_steps, nat_tests)

    -- the table's rows are in an order that is allowed
    pub before_for : (os : List Outcome) → AllPairs Sooner os
        → ((o : Outcome) → Contains os o → IsChosenAt n place choice scheduled os (scheduled + o.delay)) → AllPairs (MayPrecede n place) (rows_for choice scheduled os)
    before_for [] rising each = AllPairs-nil (MayPrecede n place)
    before_for (head ∷ os) rising each =
        let first = each head (Contains-head head os) in
        let row = row_by (scheduled + head.delay) first.next in
        rw first.is_chosen (AllPairs-with (MayPrecede n place) row (rows_for choice scheduled os)
        (λ y has.
        let m = member os y has in
        let less = AllPairs-head Sooner head os rising m.o m.has in
        let there = Contains-tail head os m.o m.has in
        subst (λ (z : GraphRow). MayPrecede n place row z) (sym m.is)
        (before_row (head ∷ os) (scheduled + head.delay) first m.o there (omega (arith, less)) (each m.o there) m.next m.is_chosen))
        (before_for os (AllPairs-tail Sooner head os rising) (fewer head os each)))

  -- one row for each outcome, by its arrival, where a leg is chosen after each
  pub by_for : (os : List Outcome) → ((o : Outcome) → Contains os o → (leg : Leg) × (choice (scheduled + o.delay) ≡ Some leg))
      → map (λ row. row.by.0) (rows_for choice scheduled os) ≡ map (λ o. scheduled + o.delay) os
  by_for [] each = refl
  by_for (head ∷ os) each =
      rw (each head (Contains-head head os)).1 (ap (λ (list : List ℕ). (scheduled + head.delay) ∷ list) (by_for os (λ u has. each u (Contains-tail head os u has))))

module _ (n : NetworkModel) (target : ℕ) (choice : Leg → ℕ → Option Leg) (leg : Leg) where
  pub table_away : end_of n leg ≢ target → table_after n target choice leg ≡ rows_for (choice leg) (arr_of n leg.exit.0) (outcomes_of n leg)
  table_away away = rw (ne_eqb (end_of n leg) target away)

  pub table_there : end_of n leg ≡ target → table_after n target choice leg ≡ []
  table_there is = rw (eq-eqb (end_of n leg) target is)

  -- a row of a table, by its outcome
  pub record IsTableRow (row : GraphRow) : Type 0 where
    pub away : end_of n leg ≢ target
    pub from_outcome : IsRowOf (choice leg) (arr_of n leg.exit.0) (outcomes_of n leg) row

  pub table_row : (row : GraphRow) → Contains (table_after n target choice leg) row → IsTableRow row
  table_row row has = grind (arith, cases_eq, Contains-nil, table_there, member, table_away)

  -- the table picks what is chosen after an outcome
  pub first_in_table : AllPairs Sooner (outcomes_of n leg) → end_of n leg ≢ target → (o : Outcome) → Contains (outcomes_of n leg) o
      → (next : Leg) → choice leg (arr_of n leg.exit.0 + o.delay) ≡ Some next
      → IsFirstInTime (table_after n target choice leg) (arr_of n leg.exit.0 + o.delay) (row_by (arr_of n leg.exit.0 + o.delay) next)
  first_in_table rising away o has next is = grind (arith, table_away, first_for)

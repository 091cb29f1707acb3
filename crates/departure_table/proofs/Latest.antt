-- The greatest moment, the rows of a table, and the least worst arrival.
use Rattle.departure_table.proofs.Common.{◌≡◌, ℕ, zero, suc, ◌<◌, ◌≤◌, ◌⊎◌, List, [], ◌∷◌, length, Option, Some, None, true, false, All, IsSome, arith, inl, inr, refl, subst, nat_le}
use Rattle.departure_table.proofs.Common.{slice_index_or, cases_lt, cases_order, nat_tests, Query, Moment, NetworkModel, Tree, Done, Ride, Stuck, IsLeastWorst, DepartureRow, SafeFrom, IsBestFrom}
use Rattle.departure_table.proofs.Common.{IsDepartureRow, IsTable, IsGreatestMoment, first_row_by}
use Rattle.departure_table.specs.Departures.{IsOfLastRow, AgreesWithLeastWorst}
use Rattle.plan_model.proofs.Laws.{reaches_from_safe, safe_exists}

-- a row by a moment, that is the first
record IsFirst (moment : ℕ) (rows : List DepartureRow) : Type 0 where
  k : ℕ
  row : DepartureRow
  within : k < length rows
  here : (d : DepartureRow) → slice_index_or rows k d ≡ row
  first : first_row_by moment rows ≡ Some row
  late : moment ≤ row.by.0

-- there is none, or all are before the moment
first_or_none : (moment : ℕ) (rows : List DepartureRow) → IsFirst moment rows ⊎ ((first_row_by moment rows ≡ None) × All (λ row. row.by.0 < moment) rows)
first_or_none moment [] = inr (refl, λ k d less. absurd (omega (arith, less)))
first_or_none moment (r ∷ rows) = elim (cases_lt r.by.0 moment) [
  | inr le ↦
      let test : nat_le moment r.by.0 ≡ true = grind (arith, nat_tests) in
      inl (record { k = 0; row = r; within = omega arith; here = λ d. refl; first = rw test refl; late = le })
  | inl gt ↦
      let test : nat_le moment r.by.0 ≡ false = grind (arith, nat_tests) in
      elim (first_or_none moment rows) [
        | inl f ↦ inl (record { k = suc f.k; row = f.row; within = let w = f.within in omega (arith, w); here = f.here; first = rw test f.first; late = f.late })
        | inr none ↦ inr (rw test none.0, cons gt none.1)
      ]
]
  where
    cons : r.by.0 < moment → All (λ row. row.by.0 < moment) rows → All (λ row. row.by.0 < moment) (r ∷ rows)
    cons less all zero d within = less
    cons less all (suc k) d within = all k d (omega (arith, within))

module _ (m : NetworkModel) (source : ℕ) (q : Query) where
  -- who begins with the leg of a row can set out as late as by the row
  safe_by_row : (moment : ℕ) (row : DepartureRow) → IsDepartureRow m row → IsBestFrom m (SafeFrom m source q) moment row → (tree : Tree) × SafeFrom m source q row.by.0 tree
  safe_by_row moment row departure best = grind arith

  -- who is safe from a later moment on is so from a sooner one on
  pub safe_sooner : (moment later : ℕ) (tree : Tree) → moment ≤ later → SafeFrom m source q later tree → (other : Tree) × SafeFrom m source q moment other
  safe_sooner moment later (Done a) sooner safe = (Done moment, (refl, safe.1, omega (arith, sooner, safe.2)))
  safe_sooner moment later (Ride i j kids) sooner safe = (Ride i j kids, (safe.0, safe.1, (safe.2.0, omega (arith, sooner, safe.2.1)), safe.3))
  safe_sooner moment later (Stuck p x) sooner safe = absurd safe

  module _ (first last : ℕ) (rows : List DepartureRow) (g : Moment) (table : IsTable m (SafeFrom m source q) first last rows)
      (greatest : IsGreatestMoment (SafeFrom m source q) first (Some g)) (order : first ≤ last) where
    -- the first row by a moment is not after the greatest one
    first_up_to : (moment : ℕ) → first ≤ moment → moment ≤ last → (f : IsFirst moment rows) → f.row.by.0 ≤ g.0
    first_up_to moment from within f =
        let best : IsBestFrom m (SafeFrom m source q) moment f.row = grind arith in
        let departure : IsDepartureRow m f.row = subst (IsDepartureRow m) (f.here f.row) (table.departures f.k f.row f.within) in
        let own = safe_by_row moment f.row departure best in
        grind (arith, cases_lt)

    -- nor is any row
    up_to_greatest : All (λ row. row.by.0 ≤ g.0) rows
    up_to_greatest k d within = elim (cases_lt last (slice_index_or rows k d).by.0) [
      | inr sooner ↦ elim (first_or_none (slice_index_or rows k d).by.0 rows) [
        | inl f ↦ let l = first_up_to (slice_index_or rows k d).by.0 (table.from_first k d within) sooner f in let h = f.late in omega (arith, l, h)
        | inr none ↦ absurd (let less = none.1 k d within in omega (arith, less))
      ]
      | inl past ↦ elim (first_or_none last rows) [
        | inl f ↦
            let l = first_up_to last order (omega arith) f in
            let h = f.late in
            let own = f.within in
            elim (cases_order f.k k) [
              | inl same ↦ let e : slice_index_or rows k d ≡ f.row = subst (λ (i : ℕ). slice_index_or rows i d ≡ f.row) same (f.here d) in rw e l
              | inr apart ↦ elim apart [
                | inl before ↦
                    let rise = table.rising f.k k d before within in
                    let here = f.here d in
                    absurd (let less : f.row.by.0 < last = subst (λ (r : DepartureRow). r.by.0 < last) here rise.1 in omega (arith, less, h))
                | inr after ↦ absurd (let rise = table.rising k f.k d after own in omega (arith, rise.1, past))
              ]
            ]
        | inr none ↦ absurd (let less = none.1 k d within in omega (arith, less, past))
      ]
    ]

    pub of_last_row : IsOfLastRow last rows g
    of_last_row = record {
      each = up_to_greatest;
      one = λ within. elim (first_or_none g.0 rows) [
        | inl f ↦ let l = first_up_to g.0 greatest.0 within f in let h = f.late in (f.row, f.first, omega (arith, l, h))
        | inr none ↦ grind arith
      ];
    }

  -- ---- and the least worst arrival

  worst_up_to : (moment : ℕ) (w : Moment) (tree : Tree) → IsLeastWorst m source q.target.0 moment (Some w) → SafeFrom m source q moment tree → w.0 ≤ q.deadline.0
  worst_up_to moment w tree least safe = grind (arith, reaches_from_safe)

  in_time : (first : ℕ) (w : Moment) (result : Option Moment) → IsLeastWorst m source q.target.0 first (Some w) → IsGreatestMoment (SafeFrom m source q) first result → w.0 ≤ q.deadline.0 → IsSome result
  in_time first w (Some g) least greatest early = refl
  in_time first w None least greatest early =
      let found = safe_exists m source q.target.0 first q.deadline.0 w least early in
      absurd (greatest first (omega arith) found.0 found.1)

  too_late : (first : ℕ) (w : Moment) (result : Option Moment) → IsLeastWorst m source q.target.0 first (Some w) → IsGreatestMoment (SafeFrom m source q) first result → q.deadline.0 < w.0 → result ≡ None
  too_late first w None least greatest late = refl
  too_late first w (Some g) least greatest late =
      let own = safe_sooner first g.0 greatest.1.0 greatest.0 greatest.1.1 in
      absurd (let up_to = worst_up_to first w own.0 least own.1 in omega (arith, up_to, late))

  at_greatest : (first : ℕ) (g w : Moment) → IsGreatestMoment (SafeFrom m source q) first (Some g) → IsLeastWorst m source q.target.0 g.0 (Some w) → w.0 ≤ q.deadline.0
  at_greatest first g w greatest least = worst_up_to g.0 w greatest.1.0 least greatest.1.1

  past_greatest : (first moment : ℕ) (g w : Moment) → IsGreatestMoment (SafeFrom m source q) first (Some g) → g.0 < moment → IsLeastWorst m source q.target.0 moment (Some w) → q.deadline.0 < w.0
  past_greatest first moment g w greatest later least = elim (cases_lt q.deadline.0 w.0) [
    | inl late ↦ late
    | inr early ↦
        let found = safe_exists m source q.target.0 moment q.deadline.0 w least early in
        absurd (greatest.2 moment later found.0 found.1)
  ]

  pub agrees : (first : ℕ) → AgreesWithLeastWorst m source q first
  agrees first = record { in_time = in_time first; too_late = too_late first; at = at_greatest first; past = past_greatest first }

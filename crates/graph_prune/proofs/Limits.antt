-- The rows by their legs' limits, and what they pick.
use Rattle.graph_prune.proofs.Common.{◌≡◌, ℕ, ◌≤◌, ◌<◌, Bool, true, false, List, [], ◌∷◌, Option, Some, None, All, AllPairs, Contains, arith, sym, subst, refl, inl, inr, ◌∙◌, if◌then◌else◌}
use Rattle.graph_prune.proofs.Common.{nat_tests, All-head, All-tail, Leg, NetworkModel, limit_of, GraphRow, pick_row, IsFirstInTime, MayPrecede, IsReadyRow, pick_in_time, row_by, Contains-nil}
use Rattle.graph_prune.proofs.Common.{Contains-head, Contains-tail, Contains-cons_cases, AllPairs-nil, AllPairs-head, AllPairs-tail, AllPairs-with, one_found, in_time_here, in_time_next, is_last}
use Rattle.graph_prune.proofs.Common.{by_limits}
use Rattle.std.proofs.lemmas.Bool.{cases_lt}

-- the row before, if any, is before the moment
abbrev pub IsApart : Option ℕ → ℕ → Type 0
IsApart None moment = Unit {0}
IsApart (Some last) moment = last < moment

-- a row by a limit, from a row of the same leg
pub record IsLimitOf (n : NetworkModel) (place : ℕ) (rows : List GraphRow) (y : GraphRow) : Type 0 where
  pub row : GraphRow
  pub has : Contains rows row
  pub limit : ℕ
  pub is_limit : limit_of n place row.leg ≡ Some limit
  pub is : y ≡ row_by limit row.leg

module _ (n : NetworkModel) (place : ℕ) where
  abbrev IsReadyHere : GraphRow → Type 0
  IsReadyHere row = IsReadyRow n place row

  apart_last : (last : Option ℕ) (x limit : ℕ) → IsApart last x → x ≤ limit → is_last last limit ≡ false
  apart_last last x limit apart within = grind (arith, nat_tests)

  -- the first by its limit has the leg of the first in time
  pub first_by_limits : (rows : List GraphRow) (last : Option ℕ) (x : ℕ) (leg : Leg) (limit : ℕ)
      → All IsReadyHere rows → IsApart last x → pick_in_time n place rows x ≡ Some leg
      → limit_of n place leg ≡ Some limit → IsFirstInTime (by_limits n place rows last) x (row_by limit leg)
  first_by_limits [] last x leg limit ready apart is its = absurd (cc)
  first_by_limits (row ∷ rows) last x leg limit ready apart is its =
      let r = All-head IsReadyHere row rows ready in
      elim (cases_lt r.limit x) [
        | inl late ↦
            let rest = sym (in_time_next n place row rows x r.limit r.is_limit late) ∙ is in
            let more = λ (before : Option ℕ) (apart : IsApart before x). first_by_limits rows before x leg limit (All-tail IsReadyHere row rows ready) apart rest its in
            rw r.is_limit (late_by r.limit (is_last last r.limit) late (more last apart) (more (Some r.limit) late))
        | inr early ↦ grind (arith, one_found, in_time_here, apart_last)
      ]
    where
      late_by : (own : ℕ) (test : Bool) → own < x → IsFirstInTime (by_limits n place rows last) x (row_by limit leg)
          → IsFirstInTime (by_limits n place rows (Some own)) x (row_by limit leg)
          → IsFirstInTime (if test then by_limits n place rows last else row_by own row.leg ∷ by_limits n place rows (Some own)) x (row_by limit leg)
      late_by own true late one two = one
      late_by own false late one two = inr (late, two)

  -- each row comes from one of the same leg
  pub limit_member : (rows : List GraphRow) (last : Option ℕ) (y : GraphRow) → All IsReadyHere rows → Contains (by_limits n place rows last) y → IsLimitOf n place rows y
  limit_member [] last y ready has = absurd (Contains-nil y has)
  limit_member (row ∷ rows) last y ready has =
      let r = All-head IsReadyHere row rows ready in
      by_test r.limit r.is_limit (is_last last r.limit) (λ before. limit_member rows before y (All-tail IsReadyHere row rows ready))
      (rw r.is_limit at has)
    where
      wider : IsLimitOf n place rows y → IsLimitOf n place (row ∷ rows) y
      wider m = record { row = m.row; has = Contains-tail row rows m.row m.has; limit = m.limit; is_limit = m.is_limit; is = m.is }

      by_test : (limit : ℕ) → limit_of n place row.leg ≡ Some limit → (test : Bool) → ((before : Option ℕ) → Contains (by_limits n place rows before) y → IsLimitOf n place rows y)
          → Contains (if test then by_limits n place rows last else row_by limit row.leg ∷ by_limits n place rows (Some limit)) y → IsLimitOf n place (row ∷ rows) y
      by_test limit is true more there = wider (more last there)
      by_test limit is false more there = elim (Contains-cons_cases (row_by limit row.leg) (by_limits n place rows (Some limit)) y there) [
        | inl same ↦ record { row = row; has = Contains-head row rows; limit = limit; is_limit = is; is = sym same }
        | inr later ↦ wider (more (Some limit) later)
      ]

  -- the rows after a row by a limit are later, where limits do not fall
  above : (rows : List GraphRow) → AllPairs (MayPrecede n place) rows → (bound : ℕ) (y : GraphRow) → All IsReadyHere rows
      → ((row : GraphRow) (limit : ℕ) → Contains rows row → limit_of n place row.leg ≡ Some limit → bound ≤ limit)
      → Contains (by_limits n place rows (Some bound)) y → bound < y.by.0
  above [] pairs bound y ready least has = absurd (Contains-nil y has)
  above (row ∷ rows) pairs bound y ready least has =
      let r = All-head IsReadyHere row rows ready in
      let rest = All-tail IsReadyHere row rows ready in
      let later = AllPairs-tail (MayPrecede n place) row rows pairs in
      let from = least row r.limit (Contains-head row rows) r.is_limit in
      let there = rw r.is_limit at has in
      elim (cases_lt bound r.limit) [
        | inl less ↦
            let other : is_last (Some bound) r.limit ≡ false = grind (arith, nat_tests) in
            elim (Contains-cons_cases (row_by r.limit row.leg) (by_limits n place rows (Some r.limit)) y (rw other at there)) [
              | inl is ↦ subst (λ (w : GraphRow). bound < w.by.0) is less
              | inr more ↦
                  let after = above rows later r.limit y rest (λ s limit h its. (AllPairs-head (MayPrecede n place) row rows pairs s h).limits r.limit limit r.is_limit its) more in
                  omega (arith, less, after)
            ]
        | inr more ↦
            let same : is_last (Some bound) r.limit ≡ true = grind (arith, nat_tests) in
            above rows later bound y rest (λ s limit h its. least s limit (Contains-tail row rows s h) its) (rw same at there)
      ]

  -- the rows rise
  pub limits_rise : (rows : List GraphRow) → AllPairs (MayPrecede n place) rows → All IsReadyHere rows → (last : Option ℕ) → AllPairs (λ a b. a.by.0 < b.by.0) (by_limits n place rows last)
  limits_rise [] pairs ready last = AllPairs-nil (λ a b. a.by.0 < b.by.0)
  limits_rise (row ∷ rows) pairs ready last =
      let r = All-head IsReadyHere row rows ready in
      let rest = All-tail IsReadyHere row rows ready in
      let later = AllPairs-tail (MayPrecede n place) row rows pairs in
      let after = λ (y : GraphRow). above rows later r.limit y rest (λ s limit h its. (AllPairs-head (MayPrecede n place) row rows pairs s h).limits r.limit limit r.is_limit its) in
      rw r.is_limit (by_test r.limit (is_last last r.limit) after (limits_rise rows later rest))
    where
      by_test : (limit : ℕ) (test : Bool) → ((y : GraphRow) → Contains (by_limits n place rows (Some limit)) y → limit < y.by.0)
          → ((before : Option ℕ) → AllPairs (λ a b. a.by.0 < b.by.0) (by_limits n place rows before))
          → AllPairs (λ a b. a.by.0 < b.by.0) (if test then by_limits n place rows last else row_by limit row.leg ∷ by_limits n place rows (Some limit))
      by_test limit true after more = more last
      by_test limit false after more = AllPairs-with (λ a b. a.by.0 < b.by.0) (row_by limit row.leg) (by_limits n place rows (Some limit)) after (more (Some limit))

  -- rows by limits pick the first that is in time
  pub in_time_by : (rows : List GraphRow) (x : ℕ) → All (λ row. limit_of n place row.leg ≡ Some row.by.0) rows → pick_row rows x ≡ pick_in_time n place rows x
  in_time_by [] x by = refl
  in_time_by (row ∷ rows) x by =
      rw (
        All-head (λ row. limit_of n place row.leg ≡ Some row.by.0) row rows by,
        in_time_by rows x
            (All-tail (λ row. limit_of n place row.leg ≡ Some row.by.0) row rows by),
      ) refl

  -- the first row in time is in time, and stays the first up to its limit
  pub record IsKeptInTime (rows : List GraphRow) (x : ℕ) (leg : Leg) : Type 0 where
    pub limit : ℕ
    pub is_limit : limit_of n place leg ≡ Some limit
    pub in_time : x ≤ limit
    pub kept : (later : ℕ) → x ≤ later → later ≤ limit → pick_in_time n place rows later ≡ Some leg

  pub in_time_kept : (rows : List GraphRow) (x : ℕ) (leg : Leg) → All IsReadyHere rows → pick_in_time n place rows x ≡ Some leg → IsKeptInTime rows x leg
  in_time_kept [] x leg ready is = absurd (cc)
  in_time_kept (row ∷ rows) x leg ready is =
      let r = All-head IsReadyHere row rows ready in
      elim (cases_lt r.limit x) [
        | inl late ↦
            let rest = in_time_kept rows x leg (All-tail IsReadyHere row rows ready) (sym (in_time_next n place row rows x r.limit r.is_limit late) ∙ is) in
            record {
              limit = rest.limit;
              is_limit = rest.is_limit;
              in_time = rest.in_time;
              kept = λ later after within. in_time_next n place row rows later r.limit r.is_limit (omega (arith, late, after)) ∙ rest.kept later after within;
            }
        | inr early ↦ grind (arith, one_found, in_time_here)
      ]

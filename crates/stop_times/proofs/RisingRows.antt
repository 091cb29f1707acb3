-- Rows that rise by trip and sequence.
use Rattle.stop_times.proofs.Common.{◌≡◌, ℕ, ◌+◌, ◌-◌, ◌<◌, false, List, length, None, inl, inr, arith, ap, sym, subst, ◌∙◌, eqb-true, cases_lt, and_parts, Key, first_below, IsRising, key_at}
use Rattle.stop_times.proofs.Common.{no_key, any-false, first-none, AreKeys, IsOwn, key_of, TimedRow, row_at, trip_of, sequence_of, repeated_time, is_taken, IsRowBefore, AreRowsRising}

before_on : (a b c : TimedRow) → IsRowBefore a b → IsRowBefore b c → IsRowBefore a c
before_on a b c h1 h2 = grind arith

-- the first m rows do
abbrev pub RiseBelow : List TimedRow → ℕ → Type 0
RiseBelow rows m = (j i : ℕ) → j < i → i < m → IsRowBefore (row_at rows j) (row_at rows i)

-- one more row
pub rising-next : (rows : List TimedRow) (i : ℕ) → RiseBelow rows i → IsRowBefore (row_at rows (i - 1)) (row_at rows i) → RiseBelow rows (i + 1)
rising-next rows i rise last j k less inside = elim (cases_lt k i) [
  | inl low ↦ rise j k less low
  | inr end ↦
      let here : i ≡ k = omega arith in
      subst (λ (m : ℕ). IsRowBefore (row_at rows j) (row_at rows m)) here (elim (cases_lt j (i - 1)) [
        | inl low ↦ before_on (row_at rows j) (row_at rows (i - 1)) (row_at rows i) (rise j (i - 1) low (omega arith)) last
        | inr next ↦ grind arith
      ])
]

-- the keys of rows that rise do so in the order of the file
pub keys_rise : (rows : List TimedRow) (keys : List Key) → AreRowsRising rows → AreKeys (is_taken false rows) (trip_of rows) (sequence_of rows) (length rows) keys → IsRising keys
unfolding IsOwn key_of
keys_rise rows keys rise own k l less inside =
    let a = own.own k no_key (omega arith) in
    let b = own.own l no_key inside in
    let trip_a : (key_at keys k).group ≡ trip_of rows (key_at keys k).row = ap (λ (w : Key). w.group) a.0 in
    let trip_b : (key_at keys l).group ≡ trip_of rows (key_at keys l).row = ap (λ (w : Key). w.group) b.0 in
    let order_a : (key_at keys k).order ≡ sequence_of rows (key_at keys k).row = ap (λ (w : Key). w.order) a.0 in
    let order_b : (key_at keys l).order ≡ sequence_of rows (key_at keys l).row = ap (λ (w : Key). w.order) b.0 in
    elim (rise (key_at keys k).row (key_at keys l).row (own.rising k l no_key less inside) b.1) [
      | inl low ↦ inl (omega (arith, trip_a, trip_b, low))
      | inr same ↦ inr (trip_a ∙ same.0 ∙ sym trip_b, inl (omega (arith, order_a, order_b, same.1)))
    ]

-- and none of them is repeated
pub rising_once : (rows : List TimedRow) → AreRowsRising rows → first_below (repeated_time rows) (length rows) ≡ None
unfolding repeated_time
rising_once rows rise = first-none (repeated_time rows) (length rows) (λ i inside.
    grind (arith, any-false, and_parts, eqb-true))

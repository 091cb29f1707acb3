-- The runs of a row of frequencies that depart in a window, gathered from the last kept row to the first.
use Rattle.connections.proofs.Common.{◌≡◌, ℕ, ℤ, pos, ◌+◌, ◌-◌, ◌*◌, ◌<◌, ◌≤◌, ◌<ℤ◌, ◌≤ℤ◌, max, nat_lt, nat_le, Bool, true, false, List, ◌++◌, length, All, refl, sym, ap, ◌∙◌, arith, ⊎_elim}
use Rattle.connections.proofs.Common.{if◌then◌else◌, AllPairs, le-ltb, leb-true, ltb-true, le-leb, lt-ltb, le-mul_of_pos_right, mul-le-mul_right, suc-mul, cases_lt, false_from_ne_true, and_parts}
use Rattle.connections.proofs.Common.{and_from, lt-leb, ints, by_lt_z, list_below, FrequencyRow, StopRow, end_of_times, IsFrequency, AreRepeats, repeat_at, AreBelow, IsRunOf, departure}
use Rattle.connections.proofs.Common.{ServiceDay, Repeat, Window, join_below, only_if, holds, DepartOnDay, departs, has_connection, repeat_of, origin_at, is_repeat, row_repeats, rows_repeats}
use Rattle.connections.proofs.{Common.in_order, JoinLemmas.{join-same, join-rest, join-on, All-join, AllPairs-join, All-only_if, AllPairs-only_if}, OrderLemmas.{Differ, All-in_order}}
use Rattle.connections.proofs.{ReachLemmas.has_connection_true, StepLemmas.{holds_parts, leaves_some}}
use Rattle.trip_frequencies.specs.Frequencies.{no_frequency}

same_bool : (a b : Bool) → (a ≡ true → b ≡ true) → (b ≡ true → a ≡ true) → a ≡ b
same_bool a b h k = grind arith

-- the first runs of a row that are taken
abbrev pub taken_runs : FrequencyRow → (ℕ → Bool) → ℕ → List Repeat
taken_runs row taken next = join_below (λ m. only_if (taken m) (repeat_of row m)) next

-- the runs before next stay as they are, and those after it are taken from a number on
abbrev pub more : (next from : ℕ) → (ℕ → Bool) → ℕ → Bool
more next from taken m = if nat_lt m next then taken m else nat_le from m

kept : (next from m : ℕ) (taken : ℕ → Bool) → m < next → more next from taken m ≡ taken m
kept next from m taken h = rw (lt-ltb m next h) refl

fresh : (next from m : ℕ) (taken : ℕ → Bool) → next ≤ m → more next from taken m ≡ nat_le from m
fresh next from m taken h = rw (le-ltb m next h) refl

module _ (w : Window) (rows : List StopRow) (day : ServiceDay) (row : FrequencyRow) where
  -- when run m leaves kept row k
  abbrev at : (m k : ℕ) → ℤ
  at m k = departs rows (origin_at rows day (departure row m)) k

  -- how many runs leave kept row k before the window, and by its end
  pub record AreLeaving (k from to : ℕ) : Type 0 where
    pub before : AreBelow from (λ m. IsRunOf row m × (departs rows (origin_at rows day (departure row m)) k <ℤ pos w.start))
    pub up_to : AreBelow to (λ m. IsRunOf row m × (departs rows (origin_at rows day (departure row m)) k ≤ℤ pos w.end))

  -- which of the first runs are taken, when each kept row from k on was looked at
  pub record AreTaken (k next : ℕ) (taken : ℕ → Bool) : Type 0 where
    pub few : next ≤ end_of_times
    pub sound : (m : ℕ) → m < next → taken m ≡ true → is_repeat w rows day row m ≡ true
    pub all : (m j : ℕ) → k ≤ j → j < length rows - 1 → IsRunOf row m → holds w (departs rows (origin_at rows day (departure row m)) j) ≡ true → (m < next) × (taken m ≡ true)
    pub late : (m : ℕ) → m < next → pos w.start ≤ℤ departs rows (origin_at rows day (departure row m)) k → taken m ≡ true

  pub none_taken : AreTaken (length rows - 1) 0 (λ m. false)
  none_taken = grind arith

  module _ (deps : DepartOnDay rows) (is : IsFrequency row) where
    run_few : (m : ℕ) → IsRunOf row m → m < end_of_times
    run_few m h = let a : m ≤ m * row.headway = le-mul_of_pos_right {m = row.headway} m (omega (arith, is.some)) in omega (arith, a, h, is.end)

    pub to_few : (k from to : ℕ) → AreLeaving k from to → to ≤ end_of_times
    to_few k from to l = ⊎_elim (λ (h : end_of_times < to). absurd (omega (arith, run_few end_of_times (l.up_to.hold end_of_times h).0))) (λ h. h) (cases_lt end_of_times to)

    -- those between leave it in the window
    pub between : (k from to m : ℕ) → AreLeaving k from to → from ≤ m → m < to → (IsRunOf row m) × (holds w (at m k) ≡ true)
    between k from to m l low high = grind (arith, by_lt_z, pos, ints)

    -- and no others
    pub inside : (k from to m : ℕ) → AreLeaving k from to → IsRunOf row m → holds w (at m k) ≡ true → (from ≤ m) × (m < to)
    inside k from to m l run h = grind (arith, holds_parts, ints, cases_lt)

    module _ (k next from to : ℕ) (taken : ℕ → Bool) (step : k < length rows - 1) (l : AreLeaving k from to) (t : AreTaken (k + 1) next taken) where
      later : (m : ℕ) → at m k ≤ℤ at m (k + 1)
      later m = omega (arith, ints, deps.ordered k (k + 1) (omega arith) (omega arith))

      starts : (m : ℕ) → m < max next to → pos w.start ≤ℤ at m k → more next from taken m ≡ true
      starts m h start =
          ⊎_elim (λ (less : m < next). kept next from m taken less ∙ t.late m less (omega (arith, ints, start, later m)))
          (λ (ge : next ≤ m). fresh next from m taken ge ∙ le-leb from m
          (⊎_elim (λ (less : m < from). absurd (omega (arith, ints, (l.before.hold m less).1, start))) (λ le. le) (cases_lt m from)))
          (cases_lt m next)

      new_run : (m : ℕ) → next ≤ m → m < max next to → from ≤ m → is_repeat w rows day row m ≡ true
      new_run m ge h low =
          let p = between k from to m l low (omega (arith, h, ge)) in
          and_from _ _ (lt-ltb (departure row m) row.end p.0) (sym (has_connection_true w rows (origin_at rows day (departure row m)) k step p.1))

      pub step_taken : AreTaken k (max next to) (more next from taken)
      step_taken = grind (arith, to_few, kept, new_run, leb-true, fresh, cases_lt, inside, holds_parts, starts)

      pub step_list : taken_runs row (more next from taken) (max next to) ≡ taken_runs row taken next ++ list_below (λ i. repeat_of row (max from next + i)) (to - max from next)
      step_list =
          let j = max next to - next in
          let e : next + j ≡ max next to = omega arith in
          let size : next + j - max from next ≡ to - max from next = omega arith in
          ap (taken_runs row (more next from taken)) (sym e)
          ∙ join-on (λ m. only_if (taken m) (repeat_of row m)) (λ m. only_if (more next from taken m) (repeat_of row m)) (repeat_of row) next (max from next) j (omega arith)
          (λ i h. ap (λ b. only_if b (repeat_of row i)) (kept next from i taken h))
          (λ i ge h. ap (λ b. only_if b (repeat_of row i)) (fresh next from i taken ge ∙ lt-leb from i (omega (arith, h, ge))))
          (λ i ge h. ap (λ b. only_if b (repeat_of row i)) (fresh next from i taken (omega (arith, ge)) ∙ le-leb from i (omega (arith, ge))))
          ∙ ap (λ n. taken_runs row taken next ++ list_below (λ i. repeat_of row (max from next + i)) n) size

    -- when each was looked at, the runs with a connection are taken
    module _ (next : ℕ) (taken : ℕ → Bool) (t : AreTaken 0 next taken) where
      found : (m : ℕ) → is_repeat w rows day row m ≡ true → (m < next) × (taken m ≡ true)
      found m h = grind (arith, and_parts, leaves_some, ltb-true)

      pub all_taken : taken_runs row taken next ≡ row_repeats w rows day row
      unfolding row_repeats
      all_taken =
          let rest = end_of_times - next in
          let e : next + rest ≡ end_of_times = omega (arith, t.few) in
          let own : ℕ → List Repeat = λ m. only_if (is_repeat w rows day row m) (repeat_of row m) in
          join-same (λ m. only_if (taken m) (repeat_of row m)) own next
          (λ m h. ap (λ b. only_if b (repeat_of row m)) (same_bool (taken m) (is_repeat w rows day row m) (t.sound m h) (λ r. (found m r).1)))
          ∙ sym (join-rest own next rest (λ m ge. ap (λ b. only_if b (repeat_of row m)) (false_from_ne_true (is_repeat w rows day row m) (λ r. omega (arith, (found m r).0, ge)))))
          ∙ ap (join_below own) e

module _ (w : Window) (rows : List StopRow) (day : ServiceDay) where
  -- what holds of each run of a row that has a connection
  pub row_repeats_all : (P : Repeat → Type 0) (row : FrequencyRow)
      → ((m : ℕ) → IsRunOf row m → has_connection w rows (origin_at rows day (departure row m)) ≡ true → P (repeat_of row m)) → All P (row_repeats w rows day row)
  unfolding row_repeats
  row_repeats_all P row h = All-join P (λ m. only_if (is_repeat w rows day row m) (repeat_of row m)) end_of_times (λ m l. All-only_if P
      (is_repeat w rows day row m) (repeat_of row m) (λ r.
      let p = and_parts (nat_lt (departure row m) row.end) (has_connection w rows (origin_at rows day (departure row m))) r in h m (ltb-true (departure row m) row.end p.0) p.1))

  pub rows_repeats_all : (P : Repeat → Type 0) (fs : List FrequencyRow) → ((i : ℕ) → i < length fs → All P (row_repeats w rows day (repeat_at fs i))) → All P (rows_repeats w rows day fs)
  unfolding rows_repeats
  rows_repeats_all P fs h = All-join P (λ i. row_repeats w rows day (repeat_at fs i)) (length fs) h

  -- they depart on the service day, and their trip has kept rows
  pub repeats_early : (fs : List FrequencyRow) → AreRepeats fs → All (λ r. r.departure < end_of_times) (in_order (rows_repeats w rows day fs))
  repeats_early fs are =
      let P : Repeat → Type 0 = λ r. r.departure < end_of_times in
      All-in_order P (rows_repeats w rows day fs) (rows_repeats_all P fs (λ i l. row_repeats_all P (repeat_at fs i) (λ m run h.
      let is : IsFrequency (repeat_at fs i) = are.each i no_frequency.row l in omega (arith, run, is.end))))

  pub repeats_some : (fs : List FrequencyRow) → 0 < length (in_order (rows_repeats w rows day fs)) → 0 < length rows
  repeats_some fs some =
      let P : Repeat → Type 0 = λ r. 0 < length rows in
      let all : All P (in_order (rows_repeats w rows day fs)) = All-in_order P (rows_repeats w rows day fs) (rows_repeats_all P fs (λ i l. row_repeats_all P (repeat_at fs i) (λ m run h.
      let x = leaves_some w rows (origin_at rows day (departure (repeat_at fs i) m)) (length rows - 1) (ltb-true 0 _ h) in omega (arith, x.1.inside)))) in
      all 0 (record { departure = 0; line = 0 }) some

  rising : (row : FrequencyRow) → 1 ≤ row.headway → (m n : ℕ) → m < n → departure row m < departure row n
  rising row some m n h = grind (arith, mul-le-mul_right, suc-mul)

  pub row_repeats_pairs : (row : FrequencyRow) → IsFrequency row → AllPairs Differ (row_repeats w rows day row)
  unfolding row_repeats
  row_repeats_pairs row is =
      let At : ℕ → Repeat → Type 0 = λ m r. r.departure ≡ departure row m in
      AllPairs-join Differ At (λ m. only_if (is_repeat w rows day row m) (repeat_of row m)) end_of_times (λ m l. All-only_if (At m)
      (is_repeat w rows day row m) (repeat_of row m) (λ r. refl))
      (λ m l. AllPairs-only_if Differ (is_repeat w rows day row m) (repeat_of row m)) (λ m n a b l h at at' e. omega
      (arith, at, at', rising row is.some m n l, ap (λ (r : Repeat). r.departure) e))

  pub rows_repeats_pairs : (fs : List FrequencyRow) → AreRepeats fs → AllPairs Differ (rows_repeats w rows day fs)
  unfolding rows_repeats
  rows_repeats_pairs fs are =
      let At : ℕ → Repeat → Type 0 = λ i r. r.line ≡ (repeat_at fs i).line in
      AllPairs-join Differ At (λ i. row_repeats w rows day (repeat_at fs i)) (length fs) (λ i l. row_repeats_all (At i) (repeat_at fs i) (λ m run r. refl))
      (λ i l. row_repeats_pairs (repeat_at fs i) (are.each i no_frequency.row l)) (λ i j a b l h at at' e. omega (
        arith,
        at,
        at',
        are.rising i j l h,
        ap (λ
            (r : Repeat). r.line) e,
      ))

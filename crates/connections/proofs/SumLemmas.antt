-- Sums over the steps, the trips and the days of a window.
use Rattle.connections.proofs.Common.{common_steps, ◌≡◌, ℕ, zero, suc, ◌+◌, ◌-◌, ◌*◌, ◌^◌, ◌<◌, ◌≤◌, min, Bool, true, false, List, [], ◌∷◌, length, get_or, if◌then◌else◌, refl, sym, ap, ◌∙◌}
use Rattle.connections.proofs.Common.{arith, ⊎_elim, sum_by, nat_lt, ◌&&◌, pos, ◌≤ℤ◌, le-mul_of_pos_right, add-mul, zero-mul, fun_ext, cases_lt, cases_Bool, cond_both, and_parts, ints}
use Rattle.connections.proofs.Common.{get_or_past, sum_by-cons, All-get_or, PlaceId, Way, ChangeParts, links_of, AreLinksInto, FrequencyRow, StopRow, FeedParts, end_of_times, IsFrequency}
use Rattle.connections.proofs.Common.{AreRepeats, AreRepeating, IsSmall, repeat_at, rows_of, kept_at, IsTimed, departure, ServiceParts, ServiceDay, Origin, Repeat, Window, only_if, sum_below}
use Rattle.connections.proofs.Common.{origin_of_day, holds, day_at, IsWindow, departs, is_active_trip, steps_below, steps_of, origin_at, repeat_of, is_repeat, row_repeats, frequencies_of, days}
use Rattle.connections.proofs.Common.{each_of, steps_sum, row_sum, rows_sum, runs_sum, leaving_sum, trip_sum, day_sum, days_sum, window_sum, count_in, entries_in, HaveWays, NoneRuns}
use Rattle.connections.proofs.{CountLemmas.{sum-zero, sum-suc, sum_by-ones, sum_by-join, length-join, sum_by-at, sum-connections}, StepLemmas.holds_parts}
use Rattle.connections.specs.declared.counts.Counted.TheVariants.{Entries}

pub active-sum : (active : Bool) (n x : ℕ) → active ≡ true → x ≡ min n (2 ^ 64 - 1) → x ≡ min (if active then n else 0) (2 ^ 64 - 1)
active-sum active n x is e = rw is e

sum-same : (f g : ℕ → ℕ) (n : ℕ) → ((k : ℕ) → f k ≡ g k) → sum_below f n ≡ sum_below g n
sum-same f g n h = ap (λ (x : ℕ → ℕ). sum_below x n) (fun_ext h)

sum-none : (n : ℕ) → sum_below (λ k. 0) n ≡ 0
sum-none zero = sum-zero (λ k. 0)
sum-none (suc n) = omega (arith, sum-suc (λ k. 0) n, sum-none n)

sum-plus : (f g : ℕ → ℕ) (n : ℕ) → sum_below (λ k. f k + g k) n ≡ sum_below f n + sum_below g n
sum-plus f g zero = omega (arith, sum-zero (λ k. f k + g k), sum-zero f, sum-zero g)
sum-plus f g (suc n) = omega (arith, sum-suc (λ k. f k + g k) n, sum-suc f n, sum-suc g n, sum-plus f g n)

-- a sum of sums in the other order
sum-swap : (F : ℕ → ℕ → ℕ) (m n : ℕ) → sum_below (λ i. sum_below (F i) n) m ≡ sum_below (λ k. sum_below (λ i. F i k) m) n
sum-swap F zero n = sum-zero (λ i. sum_below (F i) n) ∙ sym (sum-same (λ k. sum_below (λ i. F i k) 0) (λ k. 0) n (λ k. sum-zero (λ i. F i k)) ∙ sum-none n)
sum-swap F (suc m) n =
    sum-suc (λ i. sum_below (F i) n) m ∙ ap (λ x. x + sum_below (F m) n) (sum-swap F m n)
    ∙ sym (sum-same (λ k. sum_below (λ i. F i k) (suc m)) (λ k. sum_below (λ i. F i k) m + F m k) n (λ k. sum-suc (λ i. F i k) m)
    ∙ sum-plus (λ k. sum_below (λ i. F i k) m) (F m) n)

only-sum : (f : ℕ → ℕ) (b : Bool) (k : ℕ) → sum_by f (only_if b k) ≡ (if b then f k else 0)
only-sum f b k = grind arith

pub steps-sum : (f : ℕ → ℕ) (w : Window) (rows : List StopRow) (o : Origin) (n : ℕ) → sum_by f (steps_below w rows o n) ≡ sum_below (λ k. if holds w
    (departs rows o k) then f k else 0) n
unfolding steps_below
steps-sum f w rows o n = grind (arith, sum_by-join, sum-same, only-sum)

where-sum : (is : Bool) (holds' : ℕ → Bool) (f : ℕ → ℕ) (n : ℕ) → (if is then sum_below (λ k. if holds' k then f k else 0) n else 0) ≡ sum_below (λ k. if is && holds' k then f k else 0) n
where-sum true holds' f n = refl
where-sum false holds' f n = sym (sum-none n)

-- what the runs of a row add up to, by the kept rows that they leave
pub row_sum-leaving : (each : PlaceId → ℕ) (w : Window) (rows : List StopRow) (day : ServiceDay) (row : FrequencyRow)
    → row_sum each w rows day row ≡ sum_below (leaving_sum each w rows day row) (length rows - 1)
unfolding row_repeats leaving_sum
row_sum-leaving each w rows day row =
    let own : Repeat → ℕ = λ r. steps_sum each w rows (origin_at rows day r.departure) in
    let f : ℕ → ℕ = λ k. each (kept_at rows k).place in
    let o : ℕ → Origin = λ m. origin_at rows day (departure row m) in
    let F : ℕ → ℕ → ℕ = λ m k. if nat_lt (departure row m) row.end && holds w (departs rows (o m) k) then f k else 0 in
    sum_by-join own (λ m. only_if (is_repeat w rows day row m) (repeat_of row m)) end_of_times
    ∙ sum-same (λ m. sum_by own (only_if (is_repeat w rows day row m) (repeat_of row m))) (λ m. sum_below (F m) (length rows - 1)) end_of_times (λ m.
    sum-connections (nat_lt (departure row m) row.end) f (steps_of w rows (o m)) own (repeat_of row m) refl
    ∙ ap (λ x. if nat_lt (departure row m) row.end then x else 0) (steps-sum f w rows (o m) (length rows - 1))
    ∙ where-sum (nat_lt (departure row m) row.end) (λ k. holds w (departs rows (o m) k)) f (length rows - 1))
    ∙ sum-swap F end_of_times (length rows - 1)

abbrev one_if : Bool → ℕ
one_if b = if b then 1 else 0

sum-times : (p : ℕ → Bool) (x n : ℕ) → sum_below (λ m. if p m then x else 0) n ≡ sum_below (λ m. one_if (p m)) n * x
sum-times p x zero = rw (sum-zero (λ m. if p m then x else 0), sum-zero (λ m. one_if (p m)), zero-mul) refl
sum-times p x (suc n) = grind (arith, one_if, cond_both, sum-suc, add-mul, sum-times p x n)

-- what holds from one number on to another holds so often
between-count : (p : ℕ → Bool) (a c n : ℕ) → ((m : ℕ) → p m ≡ true → (a ≤ m) × (m < c)) → ((m : ℕ) → a ≤ m → m < c → p m ≡ true)
    → sum_below (λ m. one_if (p m)) n ≡ min c n - a
between-count p a c zero inside out = omega (arith, sum-zero (λ m. one_if (p m)))
between-count p a c (suc n) inside out = grind (arith, one_if, sum-suc, cases_lt, cases_Bool, between-count p a c n inside out)

-- and adds up to this many times as much
pub between-sum : (p : ℕ → Bool) (a c x n : ℕ) → ((m : ℕ) → p m ≡ true → (a ≤ m) × (m < c)) → ((m : ℕ) → a ≤ m → m < c → p m ≡ true) → sum_below (λ m. if p m then x else 0) n ≡ (min c n - a) * x
between-sum p a c x n inside out = sum-times p x n ∙ ap (λ k. k * x) (between-count p a c n inside out)

-- what holds from a number on only
later-few : (p : ℕ → Bool) (a n : ℕ) → ((m : ℕ) → p m ≡ true → m < n → a ≤ m) → sum_below (λ m. one_if (p m)) n ≤ n - a
later-few p a zero low = omega (arith, sum-zero (λ m. one_if (p m)))
later-few p a (suc n) low = grind (arith, sum-suc, cases_Bool, later-few p a n (λ m is less. low m is (omega arith)))

-- where no two are farther apart than a limit, there are few
near-few : (p : ℕ → Bool) (limit n : ℕ) → ((m k : ℕ) → p m ≡ true → p k ≡ true → k ≤ m + limit) → sum_below (λ m. one_if (p m)) n ≤ limit + 1
near-few p limit zero near = omega (arith, sum-zero (λ m. one_if (p m)))
near-few p limit (suc n) near =
    ⊎_elim (λ (is : p n ≡ true). omega (arith, later-few p (n - limit) (suc n) (λ m h less. omega (arith, near m n h is))))
    (λ (not : p n ≡ false). omega (arith, sum-suc (λ m. one_if (p m)) n, near-few p limit n near, ap one_if not)) (cases_Bool (p n))

-- at most as many runs of a row leave a kept row in the window as it has seconds
leaving-few : (w : Window) → IsWindow w → (rows : List StopRow) (day : ServiceDay) (row : FrequencyRow) → 1 ≤ row.headway → (k : ℕ) → leaving_sum (λ place. 1) w rows day row k ≤ 259201
unfolding leaving_sum
leaving-few w v rows day row some k =
    near-few (λ m. nat_lt (departure row m) row.end && holds w (departs rows (origin_at rows day (departure row m)) k)) 259200 end_of_times (λ m n p q.
    let o : ℕ → Origin = λ i. origin_at rows day (departure row i) in
    let first : (pos w.start ≤ℤ departs rows (o m) k) × (departs rows (o m) k ≤ℤ pos w.end) = grind (arith, holds_parts, and_parts) in
    let last : (pos w.start ≤ℤ departs rows (o n) k) × (departs rows (o n) k ≤ℤ pos w.end) = grind (arith, holds_parts, and_parts) in
    ⊎_elim (λ (less : m < n).
    let d = n - m in
    let far : d ≤ d * row.headway = le-mul_of_pos_right {m = row.headway} d (omega (arith, some)) in
    let whole : n ≡ m + d = omega (arith, less) in
    let apart : n * row.headway ≡ m * row.headway + d * row.headway = ap (λ x. x * row.headway) whole ∙ add-mul m d row.headway in
    omega (arith, ints, far, apart, first.0, first.1, last.0, last.1, v.short))
    (λ (le : n ≤ m). omega arith) (cases_lt m n))

-- a sum of numbers that are bounded by other numbers
sum-linear : (a c : ℕ) (f g : ℕ → ℕ) (n : ℕ) → ((k : ℕ) → k < n → f k ≤ a + g k * c) → sum_below f n ≤ n * a + sum_below g n * c
sum-linear a c f g zero h = omega (arith, sum-zero f)
sum-linear a c f g (suc n) h = grind (arith, sum-suc, add-mul, sum-linear a c f g n (λ k less. h k (omega arith)))

sum-few : (b : ℕ) (f : ℕ → ℕ) (n : ℕ) → ((k : ℕ) → k < n → f k ≤ b) → sum_below f n ≤ n * b
sum-few b f n h = omega (arith, sum-linear b 0 f (λ k. 0) n (λ k l. omega (arith, h k l)))

module _ (most : ℕ) (w : Window) (each : PlaceId → ℕ) where
  sum-scale : (f g : ℕ → ℕ) (n : ℕ) → ((k : ℕ) → k < n → f k ≤ g k * most) → sum_below f n ≤ sum_below g n * most
  sum-scale f g n h = omega (arith, sum-linear 0 most f g n (λ k l. omega (arith, h k l)))

  sum_by-scale : {A : Type 0} (f g : A → ℕ) (xs : List A) → ((x : A) → f x ≤ g x * most) → sum_by f xs ≤ sum_by g xs * most
  sum_by-scale f g [] h = omega arith
  sum_by-scale f g (x ∷ xs) h = grind (arith, sum_by-cons, add-mul, sum_by-scale f g xs h)

  if_scale : (active : Bool) (x y : ℕ) → x ≤ y * most → (if active then x else 0) ≤ (if active then y else 0) * most
  if_scale active x y h = grind arith

  steps-scale : (rows : List StopRow) → ((k : ℕ) → each (kept_at rows k).place ≤ most) → (o : Origin)
      → steps_sum each w rows o ≤ steps_sum (λ place. 1) w rows o * most
  steps-scale rows h o = sum_by-scale (λ k. each (kept_at rows k).place) (λ k. 1) (steps_of w rows o) (λ k. omega (arith, h k))

  runs-scale : (rows : List StopRow) → ((k : ℕ) → each (kept_at rows k).place ≤ most) → (fs : List FrequencyRow) (day : ServiceDay)
      → runs_sum each w rows fs day ≤ runs_sum (λ place. 1) w rows fs day * most
  unfolding rows_sum
  runs-scale rows h [] day = steps-scale rows h (origin_of_day day)
  runs-scale rows h (row ∷ more) day =
      let fs = row ∷ more in
      sum-scale (λ i. row_sum each w rows day (repeat_at fs i)) (λ i. row_sum (λ place. 1) w rows day (repeat_at fs i)) (length fs) (λ i less.
      sum_by-scale (λ (r : Repeat). steps_sum each w rows (origin_at rows day r.departure)) (λ (r : Repeat). steps_sum (λ place. 1) w rows
      (origin_at rows day r.departure))
      (row_repeats w rows day (repeat_at fs i)) (λ r. steps-scale rows h (origin_at rows day r.departure)))

  -- where each place that a trip leaves counts for this many at most, the sum is at most this many times that of ones
  pub window-scale : (f : FeedParts) (s : ServiceParts) → ((trip k : ℕ) → trip < length f.trip_ids → each (kept_at (rows_of f trip) k).place ≤ most)
      → window_sum each f s w ≤ window_sum (λ place. 1) f s w * most
  unfolding day_sum days_sum
  window-scale f s h =
      sum-scale (λ d. day_sum each f s w (day_at w d) (length f.trip_ids)) (λ d. day_sum (λ place. 1) f s w (day_at w d) (length f.trip_ids)) days (λ d less.
      sum-scale (trip_sum each f s w (day_at w d)) (trip_sum (λ place. 1) f s w (day_at w d)) (length f.trip_ids) (λ trip inside.
      if_scale (is_active_trip f s (day_at w d) trip) _ _ (runs-scale (rows_of f trip) (λ k. h trip k inside) (frequencies_of f trip) (day_at w d))))

length-only : (b : Bool) (n : ℕ) → length (only_if b n) ≤ 1
length-only b n = grind arith

steps-few : (w : Window) (rows : List StopRow) (o : Origin) (n : ℕ) → length (steps_below w rows o n) ≤ n
unfolding steps_below
steps-few w rows o n =
    let f : ℕ → List ℕ = λ k. only_if (holds w (departs rows o k)) k in omega (
      arith,
      length-join f n,
      sum-few 1 (λ k. length (f k)) n (λ k l. length-only
          (holds w (departs rows o k)) k),
    )

if_few : (active : Bool) (b x : ℕ) → x ≤ b → (if active then x else 0) ≤ b
if_few active b x h = grind arith

runs-few : (w : Window) → IsWindow w → (rows : List StopRow) → length rows ≤ 33554432 → (fs : List FrequencyRow) → AreRepeats fs → (day : ServiceDay)
    → runs_sum (λ place. 1) w rows fs day ≤ 33554432 + length fs * 8697342328832
unfolding rows_sum
runs-few w v rows few [] are day =
    omega (arith, sum_by-ones (steps_of w rows (origin_of_day day)), steps-few w rows (origin_of_day day) (length rows - 1), few)
runs-few w v rows few (row ∷ more) are day =
    let fs = row ∷ more in
    let all = sum-few 8697342328832 (λ i. row_sum (λ place. 1) w rows day (repeat_at fs i)) (length fs) (λ i less.
    let some = (All-get_or IsFrequency fs i _ less are.each).some in
    let here = sum-few 259201 (leaving_sum (λ place. 1) w rows day (repeat_at fs i)) (length rows - 1) (λ k l. leaving-few w v rows day (repeat_at fs i) some k) in
    omega (arith, row_sum-leaving (λ place. 1) w rows day (repeat_at fs i), here, few)) in
    omega (arith, all)

-- the connections of a window are at most this many
pub window-few : (f : FeedParts) (s : ServiceParts) (w : Window) → IsWindow w → AreRepeating f → IsSmall f → length f.trip_ids ≤ 4194304 → window_sum (λ place. 1) f s w ≤ 10262335758312407040
unfolding day_sum days_sum
window-few f s w v repeats small few =
    let all = sum-few 570129764350689280 (λ d. day_sum (λ place. 1) f s w (day_at w d) (length f.trip_ids)) days (λ d less.
    let day = day_at w d in
    let trips = sum-linear 33554432 8697342328832 (trip_sum (λ place. 1) f s w day) (λ trip. length (frequencies_of f trip)) (length f.trip_ids) (λ trip inside.
    if_few (is_active_trip f s day trip) (33554432 + length (frequencies_of f trip) * 8697342328832) (runs_sum (λ place. 1) w (rows_of f trip) (frequencies_of f trip) day)
    (runs-few w v (rows_of f trip) (small.rows trip inside) (frequencies_of f trip) (repeats trip inside) day)) in
    let total : sum_below (λ trip. length (frequencies_of f trip)) (length f.trip_ids) ≤ 65536
    = omega (arith, sum_by-at length [] f.frequencies, ap (λ n. sum_below (λ trip. length (frequencies_of f trip)) n) small.size, small.frequencies) in
    omega (arith, trips, total, few)) in
    omega (arith, all)

-- links that rise are at most as many as the places that they come from
links_rise : (places to : ℕ) (links : List Way) (d : Way) → AreLinksInto places to links → (i : ℕ) → i < length links → i ≤ (get_or links i d).from.0
links_rise places to links d are zero h = omega arith
links_rise places to links d are (suc i) h = omega (arith, links_rise places to links d are i (omega arith), are.rising i (suc i) d (omega arith) h)

links_few : (places to : ℕ) (links : List Way) → AreLinksInto places to links → length links ≤ places
links_few places to [] are = omega arith
links_few places to (way ∷ links) are =
    let last = length links in
    omega (arith, links_rise places to (way ∷ links) way are last (omega arith), All-get_or (λ (w : Way). w.from.0 < places) (way ∷ links) last way (omega arith) are.inside)

-- the entries of a window by its connections
pub entries-few : (f : FeedParts) (s : ServiceParts) (c : ChangeParts) (w : Window) → ((to : ℕ) → AreLinksInto 4294967296 to (links_of c to)) → entries_in f s c w ≤ 4294967297 * count_in f s w
entries-few f s c w are =
    let all = window-scale 4294967297 w (each_of c Entries) f s (λ trip k inside.
    let place = (kept_at (rows_of f trip) k).place.0 in omega (arith, links_few 4294967296 place (links_of c place) (are place))) in
    omega (arith, all)

-- the entries of a window by its connections and the most ways into a place
pub entries-most : (f : FeedParts) (s : ServiceParts) (c : ChangeParts) (w : Window) (most : ℕ) → IsTimed f → HaveWays c (length f.stop_ids) most
    → entries_in f s c w ≤ count_in f s w * most
entries-most f s c w most timed ways = grind (arith, common_steps, window-scale, get_or_past, cases_lt)

-- nothing is added where each part is nothing
pub sum-nothing : (f : ℕ → ℕ) (n : ℕ) → ((k : ℕ) → k < n → f k ≡ 0) → sum_below f n ≡ 0
sum-nothing f n h = omega (arith, sum-few 0 f n (λ k l. omega (arith, h k l)))

if_nothing : (active : Bool) (x : ℕ) → x ≡ 0 → (if active then x else 0) ≡ 0
if_nothing active x h = grind arith

runs_nothing : (each : PlaceId → ℕ) (w : Window) (rows : List StopRow) (day : ServiceDay) (fs : List FrequencyRow) → fs ≡ [] → steps_of w rows (origin_of_day day) ≡ []
    → runs_sum each w rows fs day ≡ 0
runs_nothing each w rows day fs once none = grind arith

-- a day on which no trip departs adds nothing
pub day_sum-none : (each : PlaceId → ℕ) (f : FeedParts) (s : ServiceParts) (w : Window) (day : ServiceDay) → NoneRuns f w day → day_sum each f s w day (length f.trip_ids) ≡ 0
unfolding day_sum
day_sum-none each f s w day none = grind (arith, sum-nothing, if_nothing, runs_nothing)

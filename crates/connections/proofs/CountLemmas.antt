-- How many connections runs have, and their connections, run by run.
use Rattle.connections.proofs.Common.{◌≡◌, ℕ, zero, suc, ◌+◌, ◌≤◌, ◌&&◌, Bool, true, false, List, [], ◌∷◌, length, map, take, get_or, if◌then◌else◌, refl, sym, ap, ◌∙◌, arith, add-one}
use Rattle.connections.proofs.Common.{length-append, take_all, sum_by, nat_lt, lt-ltb, fun_ext, length-map, sum_by-append, sum_by-cons, sum_by_more, DelayLists, FrequencyRow, FeedParts}
use Rattle.connections.proofs.Common.{repeat_at, rows_of, ServiceParts, ServiceDay, Window, Repeat, Run, join_below, only_if, sum_below, origin_of_day, steps_of, origin_at, row_repeats}
use Rattle.connections.proofs.Common.{rows_repeats, in_order, own_run, repeat_run, runs_of_trip, day_runs, runs_below, window_runs, run_at, no_run, run_steps, steps_sum, rows_sum, runs_sum}
use Rattle.connections.proofs.{Common.{day_sum, days_sum, count_in, connection_from, run_connections, connections_below, class_of_trip}, JoinLemmas.{join-zero, join-suc}}
use Rattle.connections.proofs.OrderLemmas.{in_order_sum}

pub sum-zero : (f : ℕ → ℕ) → sum_below f 0 ≡ 0
unfolding sum_below
sum-zero f = refl

pub sum-suc : (f : ℕ → ℕ) (n : ℕ) → sum_below f (suc n) ≡ sum_below f n + f n
unfolding sum_below
sum-suc f n = refl

pub sum-next : (f : ℕ → ℕ) (n : ℕ) → sum_below f (n + 1) ≡ sum_below f n + f n
sum-next f n = rw add-one (sum-suc f n)

-- the start and the step of a loop that adds up
pub ruleset sum_steps = (sum-zero, sum-next)

-- ones add up to their number
pub sum_by-ones : {A : Type 0} (xs : List A) → sum_by (λ x. 1) xs ≡ length xs
sum_by-ones {A} [] = refl
sum_by-ones {A} (x ∷ xs) = omega (arith, sum_by-cons (λ (y : A). 1) x xs, sum_by-ones xs)

pub sum_by-join : {A : Type 0} (g : A → ℕ) (f : ℕ → List A) (n : ℕ) → sum_by g (join_below f n) ≡ sum_below (λ i. sum_by g (f i)) n
sum_by-join g f zero = ap (sum_by g) (join-zero f) ∙ sym (sum-zero (λ i. sum_by g (f i)))
sum_by-join g f (suc n) = grind (arith, join-suc, sum_by-append, sum-suc, sum_by-join g f n)

pub length-join : {A : Type 0} (f : ℕ → List A) (n : ℕ) → length (join_below f n) ≡ sum_below (λ i. length (f i)) n
length-join f zero = omega (arith, ap length (join-zero f), sum-zero (λ i. length (f i)))
length-join f (suc n) = omega (arith, ap length (join-suc f n), length-append (join_below f n) (f n), length-join f n, sum-suc (λ i. length (f i)) n)

-- a list by its positions
sum_by-take : {A : Type 0} (g : A → ℕ) (d : A) (xs : List A) (n : ℕ) → n ≤ length xs → sum_by g (take n xs) ≡ sum_below (λ i. g (get_or xs i d)) n
sum_by-take g d xs zero h = sym (sum-zero (λ i. g (get_or xs i d)))
sum_by-take g d xs (suc n) h =
    let e : suc n ≡ n + 1 = omega arith in
    omega (arith, ap (λ k. sum_by g (take k xs)) e, sum_by_more g xs n d (omega arith), sum_by-take g d xs n (omega arith), sum-suc (λ i. g (get_or xs i d)) n)

pub sum_by-at : {A : Type 0} (g : A → ℕ) (d : A) (xs : List A) → sum_by g xs ≡ sum_below (λ i. g (get_or xs i d)) (length xs)
sum_by-at g d xs = ap (sum_by g) (sym (take_all (length xs) xs (omega arith))) ∙ sum_by-take g d xs (length xs) (omega arith)

-- what a run with a connection adds, where it is one; without one it has no steps
pub sum-connections : {A : Type 0} (is : Bool) (each : ℕ → ℕ) (steps : List ℕ) (g : A → ℕ) (x : A) → g x ≡ sum_by each steps
    → sum_by g (only_if (is && nat_lt 0 (length steps)) x) ≡ (if is then sum_by each steps else 0)
sum-connections true each [] g x e = refl
sum-connections true each (k ∷ steps) g x e = grind (arith, lt-ltb)
sum-connections false each steps g x e = refl

sum_by-map : {A B : Type 0} (g : B → ℕ) (f : A → B) (xs : List A) → sum_by g (map f xs) ≡ sum_by (λ x. g (f x)) xs
sum_by-map g f [] = refl
sum_by-map g f (x ∷ xs) = omega (arith, sum_by-cons g (f x) (map f xs), sum_by-cons (λ y. g (f y)) x xs, sum_by-map g f xs)

sum-where : {A : Type 0} (active : Bool) (g : A → ℕ) (xs : List A) (n : ℕ) → sum_by g xs ≡ n → sum_by g (if active then xs else []) ≡ (if active then n else 0)
sum-where active g xs n e = grind arith

module _ (f : FeedParts) (s : ServiceParts) (d : DelayLists) (w : Window) where
  -- how many connections a run has
  abbrev own : Run → ℕ
  own run = length (run_steps f w run)

  of_runs : (day : ServiceDay) (trip : ℕ) (fs : List FrequencyRow) → sum_by own (runs_of_trip w (rows_of f trip) fs day trip) ≡ runs_sum (λ place. 1) w
      (rows_of f trip) fs day
  unfolding rows_repeats rows_sum
  of_runs day trip [] =
      let steps = steps_of w (rows_of f trip) (origin_of_day day) in
      sum-connections true (λ k. 1) steps own (own_run day trip) (sym (sum_by-ones steps))
  of_runs day trip (row ∷ more) =
      let rows = rows_of f trip in let fs = row ∷ more in
      let each : Repeat → ℕ = λ r. steps_sum (λ place. 1) w rows (origin_at rows day r.departure) in
      sum_by-map own (repeat_run rows day trip) (in_order (rows_repeats w rows day fs))
      ∙ ap (λ (g : Repeat → ℕ). sum_by g (in_order (rows_repeats w rows day fs))) (fun_ext (λ r. sym (sum_by-ones (steps_of w rows (origin_at rows day r.departure)))))
      ∙ in_order_sum each (rows_repeats w rows day fs)
      ∙ sum_by-join each (λ i. row_repeats w rows day (repeat_at fs i)) (length fs)

  by_day : (day : ServiceDay) (n : ℕ) → sum_by own (day_runs f s w day n) ≡ day_sum (λ place. 1) f s w day n
  unfolding day_runs day_sum
  by_day day n = grind (arith, sum_by-join, own, fun_ext, sum-where, of_runs)

  by_days : (n : ℕ) → sum_by own (runs_below f s w n) ≡ days_sum (λ place. 1) f s w n
  unfolding runs_below days_sum
  by_days n = grind (arith, sum_by-join, own, fun_ext, by_day)

  -- the connections of all runs are as many as the sum
  pub connections_counted : (rs : List Run) → rs ≡ window_runs f s w → length (connections_below f d w rs (length rs)) ≡ count_in f s w
  unfolding connections_below run_connections
  connections_counted rs e =
      length-join (run_connections f d w rs) (length rs)
      ∙ ap (λ (g : ℕ → ℕ). sum_below g (length rs)) (fun_ext (λ r. length-map (run_steps f w (run_at rs r))
      (connection_from (rows_of f (run_at rs r).trip) (run_at rs r).origin r (class_of_trip f d (run_at rs r).trip))))
      ∙ sym (sum_by-at own no_run rs) ∙ ap (sum_by own) e ∙ by_days 18

-- The steps of a trip in a window.
use Rattle.connections.proofs.Common.{◌≡◌, ℕ, ◌+◌, ◌<◌, ◌≤◌, ◌≤ℤ◌, ℤ, pos, true, false, List, [], ◌++◌, length, get_or, All, refl, ⊎_elim, append_assoc, append-nil, arith, AllPairs, int_le, ints}
use Rattle.connections.proofs.{Common.{map-append, nil_from_length, All-get_or, and_parts, cases_lt, StopRow, Origin, Window, only_if, holds, steps_below, departs}, JoinLemmas.join-zero}
use Rattle.connections.proofs.JoinLemmas.{join-next, All-join, AllPairs-join, Contains-join, All-only_if, AllPairs-only_if}

-- a moment in the window
pub holds_parts : (w : Window) (moment : ℤ) → holds w moment ≡ true → (pos w.start ≤ℤ moment) × (moment ≤ℤ pos w.end)
holds_parts w moment h = grind (arith, and_parts, int_le, pos, ints)

abbrev pub Less : ℕ → ℕ → Type 0
Less a b = a < b

-- a step whose row is left in the window
pub record IsStep (w : Window) (rows : List StopRow) (o : Origin) (n k : ℕ) : Type 0 where
  pub inside : k < n
  pub holding : holds w (departs rows o k) ≡ true

module _ (w : Window) (rows : List StopRow) (o : Origin) where
  abbrev step_of : ℕ → List ℕ
  step_of k = only_if (holds w (departs rows o k)) k

  pub steps-zero : steps_below w rows o 0 ≡ []
  unfolding steps_below
  steps-zero = join-zero step_of

  -- one more row
  pub steps-next : (n : ℕ) → steps_below w rows o (n + 1) ≡ steps_below w rows o n ++ only_if (holds w (departs rows o n)) n
  unfolding steps_below
  steps-next = join-next step_of

  pub steps_are : (n : ℕ) → All (IsStep w rows o n) (steps_below w rows o n)
  unfolding steps_below
  steps_are n = All-join (IsStep w rows o n) step_of n (λ k l. All-only_if (IsStep w rows o n) (holds w (departs rows o k)) k
      (λ h. record { inside = l; holding = h }))

  pub steps_rise : (n : ℕ) → AllPairs Less (steps_below w rows o n)
  unfolding steps_below
  steps_rise n = AllPairs-join Less (λ k step. step ≡ k) step_of n (λ k l. All-only_if (λ step. step ≡ k) (holds w (departs rows o k)) k (λ h. refl))
      (λ k l. AllPairs-only_if Less (holds w (departs rows o k)) k) (λ i j x y l h a b. omega (arith, l, a, b))

  -- a row that is left in the window gives a connection
  pub some_step : (n k : ℕ) → k < n → holds w (departs rows o k) ≡ true → 0 < length (steps_below w rows o n)
  unfolding steps_below
  some_step n k l h = let has = Contains-join step_of n k k l (rw h (0, omega arith, refl)) in omega (arith, has.1)

  -- a run with a connection leaves some kept row in the window
  pub leaves_some : (n : ℕ) → 0 < length (steps_below w rows o n) → (j : ℕ) × IsStep w rows o n j
  leaves_some n some = (get_or (steps_below w rows o n) 0 0, All-get_or (IsStep w rows o n) (steps_below w rows o n) 0 0 some (steps_are n))

  pub steps_none : (n : ℕ) → ((k : ℕ) → k < n → holds w (departs rows o k) ≡ false) → steps_below w rows o n ≡ []
  steps_none n none = nil_from_length (steps_below w rows o n) (⊎_elim
      (λ (some : 0 < length (steps_below w rows o n)). let x = leaves_some n some in absurd (let no = none x.0 x.1.inside in let yes = x.1.holding in cc))
      (λ (few : length (steps_below w rows o n) ≤ 0). omega arith) (cases_lt 0 (length (steps_below w rows o n))))

-- the start and the step of a loop that makes something of each
pub ruleset map_steps = (steps-zero, steps-next, map-append, append_assoc, append-nil)

-- A tournament over the runs of a network.
use Rattle.merged_runs.proofs.Common.{◌≡◌, ℕ, zero, suc, ◌+◌, ◌-◌, ◌*◌, ◌/◌, ◌%◌, ◌<◌, ◌≤◌, ◌⊎◌, inl, inr, ⊎_elim, List, [], ◌∷◌, ◌++◌, length, get_or, set, max, arith, refl, sym, ap, ◌∙◌}
use Rattle.merged_runs.proofs.Common.{get_or-set_same, get_or-set_other, length-set, cases_lt, cases_eq, most_connections, NetworkModel, count, run_of, rank, key_of, above, IsOver, IsWinner}
use Rattle.merged_runs.proofs.{Common.{IsTournament, IsMerge, rest_of}, StretchLemmas.{run_between, within_count, key_of-set_other, key_of-none, key_of-some, rest_of-none, rest_of-last}}

above_le : (rounds k : ℕ) → above rounds k ≤ k
above_le zero k = omega arith
above_le (suc rounds) k = omega (arith, above_le rounds k)

above_more : (i more k : ℕ) → above (more + i) k ≤ above i k
above_more i zero k = omega (arith, ap (λ j. above j k) (let e : 0 + i ≡ i = omega arith in e))
above_more i (suc more) k =
    let e : suc more + i ≡ suc (more + i) = omega arith in
    omega (arith, above_more i more k, ap (λ j. above j k) e)

above_mono : (i j k : ℕ) → i ≤ j → above j k ≤ above i k
above_mono i j k h = let e : j - i + i ≡ j = omega arith in omega (arith, above_more i (j - i) k, ap (λ m. above m k) e)

above_half : (rounds k : ℕ) → above rounds (k / 2) ≡ above rounds k / 2
above_half zero k = refl
above_half (suc rounds) k = ap (λ m. m / 2) (above_half rounds k)

-- a node is above what its children are above
pub IsOver-child : (k child leaf : ℕ) → child / 2 ≡ k → IsOver child leaf → IsOver k leaf
IsOver-child k child leaf e over = (suc over.0, ap (λ m. m / 2) over.1 ∙ e)

-- and above nothing else than itself
pub IsOver-cases : (k leaf : ℕ) → k < leaf → IsOver k leaf → IsOver (2 * k) leaf ⊎ IsOver (2 * k + 1) leaf
IsOver-cases k leaf less (zero, e) = absurd (omega (arith, e))
IsOver-cases k leaf less (suc rounds, e) =
    ⊎_elim (λ same. inl (rounds, same)) (λ other. inr (rounds, omega arith)) (cases_eq (above rounds leaf) (2 * k))

final_within : (bound leaf : ℕ) → leaf ≤ bound → 0 < leaf → IsOver 1 leaf
final_within zero leaf h some = absurd (omega arith)
final_within (suc bound) leaf h some =
    ⊎_elim (λ one. (0, one))
    (λ more. let half = final_within bound (leaf / 2) (omega arith) (omega arith) in (suc half.0, sym (above_half half.0 leaf) ∙ half.1))
    (cases_eq leaf 1)

-- the final is above each node
pub IsOver-final : (leaf : ℕ) → 0 < leaf → IsOver 1 leaf
IsOver-final leaf some = final_within leaf leaf (omega arith) some

-- no run is above another
pub IsOver-leaf : (runs k leaf : ℕ) → leaf < 2 * runs → runs ≤ k → IsOver k leaf → k ≡ leaf
IsOver-leaf runs k leaf h ge given = grind (arith, above_le)

-- of two nodes above a leaf the lesser is above the other
pub IsOver-both : (a b leaf : ℕ) → IsOver a leaf → IsOver b leaf → a < b → a ≤ b / 2
IsOver-both a b leaf over_a over_b less = grind (arith, above_mono, cases_lt)

module _ (n : NetworkModel) (starts remaining : List ℕ) where
  pub IsWinner-leaf : (r : ℕ) → r < length remaining → IsWinner n starts remaining (length remaining + r) (key_of n starts remaining r)
  IsWinner-leaf r h = record {
    run = r;
    within = h;
    below = (0, refl);
    own = refl;
    best = λ other inside over. let same : other ≡ r = omega
        (arith, IsOver-leaf (length remaining) (length remaining + r) (length remaining + other) (omega arith) (omega arith) over) in omega (arith, ap (key_of n starts remaining) same);
  }

  -- at a node the greater of the keys of its children wins
  pub IsWinner-first : (k first second : ℕ) → 0 < k → k < length remaining → IsWinner n starts remaining (2 * k) first
      → IsWinner n starts remaining (2 * k + 1) second → second ≤ first → IsWinner n starts remaining k first
  IsWinner-first k first second some h a b most = record {
    run = a.run;
    within = a.within;
    below = IsOver-child k (2 * k) (length remaining + a.run) (omega arith) a.below;
    own = a.own;
    best = λ r inside over. ⊎_elim (λ over_first. a.best r inside over_first) (λ over_second. omega (arith, b.best r inside over_second, most)) (IsOver-cases k (length remaining + r) (omega arith) over);
  }

  pub IsWinner-second : (k first second : ℕ) → 0 < k → k < length remaining → IsWinner n starts remaining (2 * k) first
      → IsWinner n starts remaining (2 * k + 1) second → first ≤ second → IsWinner n starts remaining k second
  IsWinner-second k first second some h a b most = record {
    run = b.run;
    within = b.within;
    below = IsOver-child k (2 * k + 1) (length remaining + b.run) (omega arith) b.below;
    own = b.own;
    best = λ r inside over. ⊎_elim (λ over_first. omega (arith, a.best r inside over_first, most)) (λ over_second. b.best r inside over_second) (IsOver-cases k (length remaining + r) (omega arith) over);
  }

  -- that is, their maximum does
  pub IsWinner-max : (k first second key : ℕ) → 0 < k → k < length remaining → IsWinner n starts remaining (2 * k) first
      → IsWinner n starts remaining (2 * k + 1) second → key ≡ max first second → IsWinner n starts remaining k key
  IsWinner-max k first second key some h a b greatest = grind (arith, cases_lt, IsWinner-second, IsWinner-first)

-- the runs before this one have their keys
pub record AreRead (n : NetworkModel) (starts remaining : List ℕ) (run : ℕ) (keys : List ℕ) : Type 0 where
  pub size : length keys ≡ 2 * length remaining
  pub each : (r : ℕ) → r < run → r < length remaining → get_or keys (length remaining + r) 0 ≡ key_of n starts remaining r

-- the nodes from this one on have the greatest keys below them
pub record IsPlayedFrom (n : NetworkModel) (starts remaining : List ℕ) (node : ℕ) (keys : List ℕ) : Type 0 where
  pub size : length keys ≡ 2 * length remaining
  pub each : (k : ℕ) → node ≤ k → 0 < k → k < 2 * length remaining → IsWinner n starts remaining k (get_or keys k 0)

-- the nodes have the greatest keys below them, but maybe those that are less than this one and above the run
pub record IsPlayedAround (n : NetworkModel) (starts remaining : List ℕ) (run node : ℕ) (keys : List ℕ) : Type 0 where
  pub size : length keys ≡ 2 * length remaining
  pub some : 0 < node
  pub few : node < 2 * length remaining
  pub over : IsOver node (length remaining + run)
  pub each : (k : ℕ) → 0 < k → k < 2 * length remaining → (IsOver k (length remaining + run) → node ≤ k) → IsWinner n starts remaining k (get_or keys k 0)

module _ (n : NetworkModel) (starts remaining keys : List ℕ) where
  pub IsPlayedFrom-runs : (run : ℕ) → length remaining ≤ run → AreRead n starts remaining run keys → IsPlayedFrom n starts remaining (length remaining) keys
  IsPlayedFrom-runs run all read = record {
    size = read.size;
    each = λ k ge some few. let e : length remaining + (k - length remaining) ≡ k = omega arith in
        grind (arith, IsWinner-leaf);
  }

  -- one run more has its key
  pub AreRead-more : (run key : ℕ) → run < length remaining → AreRead n starts remaining run keys → key ≡ key_of n starts remaining run
      → AreRead n starts remaining (run + 1) (set keys (length remaining + run) key)
  AreRead-more run key h read own = grind (arith, length-set, get_or-set_same, get_or-set_other, cases_eq)

  -- one node more is played
  pub IsPlayedFrom-more : (node key : ℕ) → 0 < node → node ≤ length remaining → IsPlayedFrom n starts remaining node keys → IsWinner n starts remaining (node - 1) key
      → IsPlayedFrom n starts remaining (node - 1) (set keys (node - 1) key)
  IsPlayedFrom-more node key some few played won = grind (arith, length-set, cases_eq, get_or-set_same, get_or-set_other)

  -- the final has the greatest key of all
  pub best_of_all : IsTournament n starts remaining keys → (r : ℕ) → r < length remaining → key_of n starts remaining r ≤ get_or keys 1 0
  best_of_all t r h = (t.each 1 (omega arith) (omega arith)).best r h (IsOver-final (length remaining + r) (omega arith))

-- where the last connection of a run is given and its key is read again, the nodes that are not above the run keep theirs
pub IsPlayedAround-run : (n : NetworkModel) → (starts remaining keys : List ℕ) (run end key : ℕ) → IsTournament n starts remaining keys → run < length remaining
    → key ≡ key_of n starts (set remaining run end) run → IsPlayedAround n starts (set remaining run end) run (length remaining + run) (set keys (length remaining + run) key)
IsPlayedAround-run n starts remaining keys run end key t h own = grind (arith, set, length-set, IsWinner-leaf, key_of-set_other, above_le, get_or-set_same, get_or-set_other, cases_eq)

module _ (n : NetworkModel) (starts remaining : List ℕ) (run node : ℕ) (keys : List ℕ) (p : IsPlayedAround n starts remaining run node keys) where
  -- both children of the node above this one have their keys
  pub IsPlayedAround-child : (child : ℕ) → child / 2 ≡ node / 2 → 1 < node → child < 2 * length remaining → IsWinner n starts remaining child (get_or keys child 0)
  IsPlayedAround-child child e more few =
      p.each child (omega arith) few (λ over. ⊎_elim (λ less. absurd (omega (arith, IsOver-both child node (length remaining + run) over p.over less))) (λ ge. ge) (cases_lt child node))

  pub IsPlayedAround-more : (key : ℕ) → 1 < node → IsWinner n starts remaining (node / 2) key → IsPlayedAround n starts remaining run (node / 2) (set keys (node / 2) key)
  IsPlayedAround-more key more won = record {
    size = omega (arith, length-set keys (node / 2) key, p.size);
    some = omega arith;
    few = omega (arith, p.few);
    over = IsOver-child (node / 2) node (length remaining + run) refl p.over;
    each = λ k some few outside. ⊎_elim (λ (same : k ≡ node / 2). rw (same, get_or-set_same keys (node / 2) key 0 (omega (arith, p.size, p.few))) won)
        (λ other. rw (get_or-set_other keys (node / 2) k key 0 other)
        (p.each k some few (λ over. ⊎_elim (λ less. absurd
        (omega (arith, outside over, other, IsOver-both k node (length remaining + run) over p.over less))) (λ ge. ge) (cases_lt k node)))) (cases_eq k (node / 2));
  }

-- the run that wins, by the key of the final
pub record HasWon (n : NetworkModel) (starts remaining : List ℕ) (key : ℕ) : Type 0 where
  pub run : ℕ
  pub within : run < length remaining
  pub some : get_or starts run 0 < get_or remaining run 0
  pub last : key - 1 ≡ rank n (get_or remaining run 0 - 1)
  pub own : run_of n (get_or remaining run 0 - 1) ≡ run
  pub there : get_or remaining run 0 - 1 < count n
  pub id : (key - 1) % most_connections ≡ get_or remaining run 0 - 1

module _ (n : NetworkModel) (starts remaining keys : List ℕ) (m : IsMerge n starts remaining keys) (key : ℕ) (final : key ≡ get_or keys 1 0) where
  -- where the final has no key nothing remains at all
  pub rest_of-exhausted : key ≡ 0 → rest_of n remaining ≡ []
  rest_of-exhausted none =
      rest_of-none n starts remaining m.stretches (λ r h. ⊎_elim
      (λ less. absurd (omega (arith, best_of_all n starts remaining keys m.tournament r h, final, key_of-some n starts remaining r less))) (λ ge. ge)
      (cases_lt (get_or starts r 0) (get_or remaining r 0)))

  pub won : 0 < length remaining → 0 < key → HasWon n starts remaining key
  won any more =
      let w = m.tournament.each 1 (omega arith) (omega (arith, any)) in
      grind (arith, key_of-none, cases_lt, key_of-some, run_between, within_count)

  -- the last connection that remains of the run that won is the last one of all
  pub rest_of-given : (h : HasWon n starts remaining key) → rest_of n remaining ≡ rest_of n (set remaining h.run (get_or remaining h.run 0 - 1)) ++ record { 0 = get_or remaining h.run 0 - 1 } ∷ []
  rest_of-given h = grind (arith, rest_of-last, best_of_all, key_of-some)

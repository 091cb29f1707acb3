-- What remains of the runs of a network.
use Rattle.merged_runs.proofs.Common.{◌≡◌, ℕ, zero, suc, ◌+◌, ◌-◌, ◌<◌, ◌≤◌, ⊎_elim, Bool, true, false, cond, ltb, List, [], ◌∷◌, ◌++◌, length, get_or, set, take, drop, add-one, All, AllPairs}
use Rattle.merged_runs.proofs.Common.{arith, refl, sym, ap, ◌∙◌, subst, Contains, filter, lt-ltb, le-ltb, ltb-true, get_or-set_same, get_or-set_other, take_all, nat_tests, common_steps, cases_lt}
use Rattle.merged_runs.proofs.Common.{cases_eq, cond-true, cond-false, false_from_ne_true, get_or_past, All-tail, All-head, most_connections, ConnectionId, NetworkModel, IsValid, count, run_of}
use Rattle.merged_runs.proofs.{Common.{IsScanOrder, has_each_id, rank, in_order, rest_of, IsStart, AreStarts, AreStretches, key_of, key_between}, ScanLemmas.{IsScanOrder-in_order, All-in_order}}
use Rattle.merged_runs.proofs.ScanLemmas.{AllPairs-in_order}

-- a run is one of those that have a start, and its connections lie from there to the next start
pub record IsOfRun (n : NetworkModel) (starts : List ℕ) (i : ℕ) : Type 0 where
  pub run : run_of n i + 1 < length starts
  pub from : get_or starts (run_of n i) 0 ≤ i
  pub to : i < get_or starts (run_of n i + 1) 0

pub of_run : (n : NetworkModel) (starts : List ℕ) → AreStarts n starts → (i : ℕ) → i < count n → IsOfRun n starts i
of_run n starts s i h = grind (arith, common_steps)

-- between two starts there are the connections of one run
pub run_between : (n : NetworkModel) (starts : List ℕ) → AreStarts n starts → (r i : ℕ) → r + 1 < length starts → get_or starts r 0 ≤ i → i < get_or starts (r + 1) 0 → (i < count n) × (run_of n i ≡ r)
run_between n starts s r i h from to = grind (arith, common_steps)

-- what remains of a run ends within the network
pub within_count : (n : NetworkModel) (starts remaining : List ℕ) → AreStretches n starts remaining → (r : ℕ) → r < length remaining → get_or remaining r 0 ≤ most_connections
within_count n starts remaining s r h = grind (arith, common_steps)

-- ranks do not fall along a run
pub rank_along : (n : NetworkModel) → IsValid n → (i j : ℕ) → i ≤ j → j < count n → run_of n i ≡ run_of n j → rank n i ≤ rank n j
rank_along n v i j h k same = grind (arith, common_steps)

pub key_of-none : (n : NetworkModel) (starts remaining : List ℕ) (r : ℕ) → get_or remaining r 0 ≤ get_or starts r 0 → key_of n starts remaining r ≡ 0
unfolding key_of
key_of-none n starts remaining r h = cond-false (ltb (get_or starts r 0) (get_or remaining r 0)) _ _ (le-ltb (get_or starts r 0) (get_or remaining r 0) h)

pub key_of-some : (n : NetworkModel) (starts remaining : List ℕ) (r : ℕ) → get_or starts r 0 < get_or remaining r 0 → key_of n starts remaining r ≡ rank n (get_or remaining r 0 - 1) + 1
unfolding key_of
key_of-some n starts remaining r h = cond-true (ltb (get_or starts r 0) (get_or remaining r 0)) _ _ (lt-ltb (get_or starts r 0) (get_or remaining r 0) h)

-- as it is found of the positions
pub key_of-between : (n : NetworkModel) (starts remaining : List ℕ) (r from to key : ℕ) → from ≡ get_or starts r 0 → to ≡ get_or remaining r 0
    → key ≡ key_between n from to → key ≡ key_of n starts remaining r
unfolding key_of
key_of-between n starts remaining r from to key is_from is_to is = rw (is_from, is_to) at is

-- one connection of a run is given
module _ (n : NetworkModel) (starts remaining : List ℕ) (run : ℕ) where
  pub key_of-set_other : (end r : ℕ) → (r ≡ run → ⊥) → key_of n starts (set remaining run end) r ≡ key_of n starts remaining r
  unfolding key_of
  key_of-set_other end r other = rw (get_or-set_other remaining run r end 0 other)

filter_all : (p : ConnectionId → Bool) (ids : List ConnectionId) → All (λ id. p id ≡ true) ids → filter p ids ≡ ids
filter_all p [] all = refl
filter_all p (id ∷ ids) all =
    cond-true (p id) (id ∷ filter p ids) (filter p ids) (All-head (λ (x : ConnectionId). p x ≡ true) id ids all)
    ∙ ap (λ (zs : List ConnectionId). id ∷ zs) (filter_all p ids (All-tail (λ (x : ConnectionId). p x ≡ true) id ids all))

pub filter_none : (p : ConnectionId → Bool) (ids : List ConnectionId) → All (λ id. p id ≡ false) ids → filter p ids ≡ []
filter_none p [] none = refl
filter_none p (id ∷ ids) none =
    cond-false (p id) (id ∷ filter p ids) (filter p ids) (All-head (λ (x : ConnectionId). p x ≡ false) id ids none) ∙ filter_none p ids (All-tail (λ (x : ConnectionId). p x ≡ false) id ids none)

-- a filter that leaves out the greatest of what another one keeps
filter_last : (p q : ConnectionId → Bool) (key : ConnectionId → ℕ) (last : ConnectionId) → p last ≡ true → q last ≡ false
    → ((id : ConnectionId) → (key id ≡ key last → ⊥) → q id ≡ p id) → ((id : ConnectionId) → p id ≡ true → key id ≤ key last)
    → (ids : List ConnectionId) → AllPairs (λ a b. key a < key b) ids → Contains ids last → filter p ids ≡ filter q ids ++ last ∷ []
filter_last p q key last kept remaining same most [] up (k, within, e) = absurd (omega arith)
filter_last p q key last kept remaining same most (id ∷ ids) up (zero, within, e) =
    let none : All (λ x. p x ≡ false) ids = λ k d h. false_from_ne_true (p (get_or ids k d))
    (λ t. let less = up 0 (suc k) d (omega arith) (omega arith) in omega (arith, most (get_or ids k d) t, less, ap key e)) in
    let other : All (λ x. q x ≡ false) ids = λ k d h. let less = up 0 (suc k) d (omega arith) (omega arith) in same (get_or ids k d) (λ t. omega (arith, t, less, ap key e)) ∙ none k d h in
    rw (e, cond-true (p last) (last ∷ filter p ids) (filter p ids) kept, cond-false (q last) (last ∷ filter q ids) (filter q ids) remaining, filter_none p ids none, filter_none q ids other) refl
filter_last p q key last kept remaining same most (id ∷ ids) up (suc k, within, e) =
    let less : key id < key last = subst (λ (x : ConnectionId). key id < key x) e (up 0 (suc k) last (omega arith) within) in
    let ih = filter_last p q key last kept remaining same most ids (λ i j d h w. up (suc i) (suc j) d (omega arith) (omega arith)) (k, omega arith, e) in
    let agree = same id (λ t. omega arith) in
    rw (agree, ih) (elim (p id) as (λ b. cond b (id ∷ filter q ids ++ last ∷ []) (filter q ids ++ last ∷ []) ≡ cond b (id ∷ filter q ids) (filter q ids) ++ last ∷ []) [ true ↦ refl | false ↦ refl ])

pub rest_of-all : (n : NetworkModel) → IsValid n → (starts remaining : List ℕ) → AreStretches n starts remaining
    → ((r : ℕ) → r < length remaining → get_or remaining r 0 ≡ get_or starts (r + 1) 0) → IsScanOrder n (rest_of n remaining)
unfolding rest_of
rest_of-all n v starts remaining s all =
    let each : All (λ id. ltb id.0 (get_or remaining (run_of n id.0) 0) ≡ true) (in_order n (count n)) = λ k d within.
    let id : ConnectionId = get_or (in_order n (count n)) k d in
    let own = of_run n starts s.begin id.0 (All-in_order n (count n) k d within) in
    lt-ltb id.0 (get_or remaining (run_of n id.0) 0) (omega (arith, own.to, all (run_of n id.0) (omega (arith, own.run, s.size)))) in
    rw (filter_all (λ (id : ConnectionId). ltb id.0 (get_or remaining (run_of n id.0) 0)) (in_order n (count n)) each) (IsScanOrder-in_order n v)

pub rest_of-none : (n : NetworkModel) (starts remaining : List ℕ) → AreStretches n starts remaining → ((r : ℕ) → r < length remaining → get_or remaining r 0 ≤ get_or starts r 0) → rest_of n remaining ≡ []
unfolding rest_of
rest_of-none n starts remaining s none = grind (arith, filter_none, ltb, of_run, All-in_order, le-ltb)

same_test : (i end : ℕ) → (i ≡ end - 1 → ⊥) → ltb i (end - 1) ≡ ltb i end
same_test i end other = grind (arith, common_steps, nat_tests)

pub waiting : (n : NetworkModel) (remaining : List ℕ) (i : ℕ) → i < get_or remaining (run_of n i) 0 → run_of n i < length remaining
waiting n remaining i h = ⊎_elim (λ less. less) (λ ge. absurd (omega (arith, h, get_or_past remaining (run_of n i) 0 ge))) (cases_lt (run_of n i) (length remaining))

-- no connection that remains ranks above what its run shows
rank_at_most_key : (n : NetworkModel) → IsValid n → (starts remaining : List ℕ) → AreStretches n starts remaining → (i : ℕ) → i < get_or remaining (run_of n i) 0 → rank n i < key_of n starts remaining (run_of n i)
rank_at_most_key n v starts remaining s i h =
    let r : ℕ = run_of n i in
    let inside : r < length remaining = waiting n remaining i h in
    let bounds = s.within r inside in
    let next = s.begin.each (r + 1) (omega (arith, s.size)) in
    let own = of_run n starts s.begin i (omega (arith, bounds.1, next.within)) in
    let last = run_between n starts s.begin r (get_or remaining r 0 - 1) (omega (arith, s.size)) (omega (arith, own.from)) (omega (arith, bounds.1)) in
    omega (arith, rank_along n v i (get_or remaining r 0 - 1) (omega arith) last.0 (sym last.1), key_of-some n starts remaining r (omega (arith, own.from)))

pub rest_of-last : (n : NetworkModel) → IsValid n → (starts remaining : List ℕ) → AreStretches n starts remaining → (run : ℕ) → run < length remaining
    → get_or starts run 0 < get_or remaining run 0 → ((r : ℕ) → r < length remaining → key_of n starts remaining r ≤ key_of n starts remaining run)
    → rest_of n remaining ≡ rest_of n (set remaining run (get_or remaining run 0 - 1)) ++ record { 0 = get_or remaining run 0 - 1 } ∷ []
unfolding rest_of
rest_of-last n v starts remaining s run h some most =
    let end : ℕ = get_or remaining run 0 in
    let less : List ℕ = set remaining run (end - 1) in
    let last : ConnectionId = record { 0 = end - 1 } in
    let now : get_or less run 0 ≡ end - 1 = get_or-set_same remaining run (end - 1) 0 h in
    let own = run_between n starts s.begin run (end - 1) (omega (arith, s.size)) (omega arith) (omega (arith, (s.within run h).1)) in
    let ids : List ConnectionId = in_order n (count n) in
    filter_last (λ id. ltb id.0 (get_or remaining (run_of n id.0) 0)) (λ id. ltb id.0 (get_or less (run_of n id.0) 0)) (λ id. rank n id.0) last
    (rw own.1 (lt-ltb (end - 1) end (omega arith)))
    (rw (own.1, now) (le-ltb (end - 1) (end - 1) (omega arith)))
    (λ id other. ⊎_elim (λ (same : run_of n id.0 ≡ run). rw (same, now) (same_test id.0 end (λ e. other (ap (rank n) e))))
    (λ apart. rw (get_or-set_other remaining run (run_of n id.0) (end - 1) 0 apart) refl) (cases_eq (run_of n id.0) run))
    (λ id t. omega (
      arith,
      rank_at_most_key n v starts remaining s id.0 (ltb-true id.0 (get_or remaining (run_of n id.0) 0) t),
      most (run_of n id.0)
          (waiting n remaining id.0 (ltb-true id.0 (get_or remaining (run_of n id.0) 0) t)),
      key_of-some n starts remaining run some,
    ))
    ids (AllPairs-in_order n (count n) v.few_connections)
    ((has_each_id n ids (IsScanOrder-in_order n v)).all (end - 1) own.0)

-- all connections of each run remain
pub record IsWhole (starts remaining : List ℕ) : Type 0 where
  pub size : length starts ≡ length remaining + 1
  pub each : (r : ℕ) → r < length remaining → get_or remaining r 0 ≡ get_or starts (r + 1) 0

get_or_next : (x : ℕ) (xs : List ℕ) (i : ℕ) → get_or xs i 0 ≡ get_or (x ∷ xs) (i + 1) 0
get_or_next x xs i = rw add-one refl

pub IsWhole-copied : (starts : List ℕ) → 0 < length starts → IsWhole starts (take (length starts - 1) (drop 1 starts))
IsWhole-copied starts some = grind (arith, take_all, get_or_next)

start_mono : (n : NetworkModel) (r a b : ℕ) → IsStart n r a → IsStart n (r + 1) b → a ≤ b
start_mono n r a b first next = ⊎_elim (λ less. absurd (omega (arith, less, first.within, first.before b less, next.after b (omega arith)))) (λ ge. ge) (cases_lt b a)

pub AreStretches-whole : (n : NetworkModel) (starts remaining : List ℕ) → AreStarts n starts → IsWhole starts remaining → AreStretches n starts remaining
AreStretches-whole n starts remaining s w = record {
  begin = s;
  size = w.size;
  within = λ r h. rw (w.each r h) (start_mono n r (get_or starts r 0) (get_or starts (r + 1) 0) (s.each r (omega (arith, w.size))) (s.each (r + 1) (omega (arith, w.size))), omega arith);
}

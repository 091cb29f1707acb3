-- What remains of the runs of a network up to a moment.
use Rattle.merged_runs.proofs.Common.{◌≡◌, ℕ, suc, ◌+◌, ◌<◌, ◌≤◌, inl, inr, Bool, true, false, cond, ltb, List, [], ◌∷◌, ◌++◌, length, get_or, All, AllPairs, arith, refl, filter, lt-ltb}
use Rattle.merged_runs.proofs.Common.{ltb-true, common_steps, cases_lt, cases_Bool, nat_tests, All-tail, All-head, All-cons, All-weaker, filter_agree, filter_passes, ConnectionId, NetworkModel}
use Rattle.merged_runs.proofs.{Common.{IsValid, count, dep_of, run_of, IsPrefixUpTo, AllPairs-tail, in_order, rest_of, AreStretches, DepartsInOrder, IsParted}, ScanLemmas.IsScanOrder-in_order}
use Rattle.merged_runs.proofs.StretchLemmas.{run_between, filter_none}
use Rattle.plan_model.proofs.Skips.{dep_of_earlier}

late_alike : (p late : ConnectionId → Bool) (ids : List ConnectionId) → All (λ id. late id ≡ true) ids
    → filter p ids ≡ filter (λ id. cond (late id) (p id) false) ids
late_alike p late [] all = refl
late_alike p late (id ∷ ids) all =
    let more = late_alike p late ids (All-tail (λ (x : ConnectionId). late x ≡ true) id ids all) in
    rw (All-head (λ (x : ConnectionId). late x ≡ true) id ids all, more) refl

-- where all that comes after something late is late, what passes is what is not late, and then what is
filter_parts : (p late : ConnectionId → Bool) (ids : List ConnectionId) → AllPairs (λ a b. late a ≡ true → late b ≡ true) ids
    → filter p ids ≡ filter (λ id. cond (late id) false (p id)) ids ++ filter (λ id. cond (late id) (p id) false) ids
filter_parts p late [] up = refl
filter_parts p late (id ∷ ids) up = elim (cases_Bool (late id)) [
  | inl is_late ↦
      let all = All-cons (λ (x : ConnectionId). late x ≡ true) id ids is_late (λ k d within. up 0 (suc k) d (omega arith) (omega arith) is_late) in
      rw (filter_none (λ x. cond (late x) false (p x)) (id ∷ ids) (λ k d within. rw (all k d within) refl)) (late_alike p late (id ∷ ids) all)
  | inr is_soon ↦ grind (arith, AllPairs-tail, cases_Bool, filter_parts p late ids (AllPairs-tail (λ (a b : ConnectionId). late a ≡ true → late b ≡ true) id ids up))
]

-- departures do not fall along a run
pub DepartsInOrder-run : (n : NetworkModel) → IsValid n → (starts remaining : List ℕ) → AreStretches n starts remaining → (r : ℕ) → r < length remaining → DepartsInOrder n (get_or starts r 0) (get_or remaining r 0)
DepartsInOrder-run n v starts remaining s r h i j from up to = grind (arith, run_between, cases_lt)

-- what remains of a run, up to a position in it
pub stretch_is : (n : NetworkModel) (starts remaining : List ℕ) → AreStretches n starts remaining → (r : ℕ) → r < length remaining
    → (from to : ℕ) → from ≡ get_or starts r 0 → to ≤ get_or remaining r 0 → (to ≤ count n) × DepartsInOrder n from to
stretch_is n starts remaining s r h from to is_from up_to = (
  omega (arith, up_to, (s.within r h).1, (s.begin.each (r + 1) (omega (arith, h, s.size))).within),
  λ i j ge along less. DepartsInOrder-run n s.begin.valid starts remaining s r h i j (omega (arith, ge, is_from)) along (omega (arith, less, up_to)),
)

module _ (n : NetworkModel) (last from low high to : ℕ) (p : IsParted n last from low high to) (rising : DepartsInOrder n from to) where
  pub IsParted-up : (middle : ℕ) → low ≤ middle → middle < high → dep_of n middle ≤ last → IsParted n last from (middle + 1) high to
  IsParted-up middle ge less soon = grind (arith, common_steps, nat_tests)

-- the ends of the runs before this one are lowered to those that depart by a moment
pub record AreLowered (n : NetworkModel) (last : ℕ) (starts remaining : List ℕ) (run : ℕ) (new : List ℕ) : Type 0 where
  pub size : length new ≡ length remaining
  pub done : (r : ℕ) → r < run → r < length remaining → IsParted n last (get_or starts r 0) (get_or new r 0) (get_or new r 0) (get_or remaining r 0)
  pub same : (r : ℕ) → run ≤ r → get_or new r 0 ≡ get_or remaining r 0

when_true : (last dep : ℕ) (b : Bool) → cond (ltb last dep) b false ≡ true → last < dep
when_true last dep b passes = grind (arith, nat_tests)

when_false : (last dep : ℕ) (b : Bool) → cond (ltb last dep) false b ≡ true → dep ≤ last
when_false last dep b passes = grind (arith, nat_tests)

module _ (n : NetworkModel) (last : ℕ) (starts remaining new : List ℕ) (run : ℕ) (s : AreStretches n starts remaining) (all : length remaining ≤ run) (l : AreLowered n last starts remaining run new) where
  -- what remains now is what remained and departs in time
  kept_soon : (id : ConnectionId) → ltb id.0 (get_or new (run_of n id.0) 0) ≡ cond (ltb last (dep_of n id.0)) false (ltb id.0 (get_or remaining (run_of n id.0) 0))
  kept_soon id = grind (arith, common_steps)

  pub rest_of-lowered : IsValid n → IsPrefixUpTo n last (rest_of n remaining) (rest_of n new)
  unfolding rest_of
  rest_of-lowered v =
      let ids : List ConnectionId = in_order n (count n) in
      let up : AllPairs (λ (a b : ConnectionId). ltb last (dep_of n a.0) ≡ true → ltb last (dep_of n b.0) ≡ true) ids = λ i j d less within late.
      let along : dep_of n (get_or ids i d).0 ≤ dep_of n (get_or ids j d).0 = dep_of_earlier n (get_or ids i d).0 (get_or ids j d).0 ((IsScanOrder-in_order n v).rising i j d less within) in
      lt-ltb last (dep_of n (get_or ids j d).0) (omega (arith, along, ltb-true last (dep_of n (get_or ids i d).0) late)) in
      let p = λ (id : ConnectionId). ltb id.0 (get_or remaining (run_of n id.0) 0) in
      let late = λ (id : ConnectionId). ltb last (dep_of n id.0) in
      rw (filter_agree _ (λ id. cond (late id) false (p id)) kept_soon ids) (record {
        skipped = filter (λ id. cond (late id) (p id) false) ids;
        split = filter_parts p late ids up;
        late = grind (arith, All-weaker, when_true, filter_passes);
        soon = grind (arith, All-weaker, when_false, filter_passes);
      })

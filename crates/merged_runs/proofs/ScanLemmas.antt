-- The scan order of a network, and what remains of it.
use Rattle.merged_runs.proofs.Common.{◌≡◌, ℕ, zero, suc, ◌<◌, ◌≤◌, ltb, List, [], ◌∷◌, ◌++◌, All, AllPairs, arith, sym, subst, IsPermutation, ltb-true, ltb-false, common_steps, cond_both}
use Rattle.merged_runs.proofs.Common.{All-cons, All-tail, All-head, AllPairs-first, AllPairs-tail, most_connections, ConnectionId, NetworkModel, IsValid, count, IsScanOrder, IsEarlier, ids_below}
use Rattle.merged_runs.proofs.Common.{length_ids, get_ids, rank, with_connection, in_order}
use Rattle.std.proofs.lemmas.List.{Kept.AllPairs-cons, Sorted.{IsPermutation-refl, IsPermutation-cons, IsPermutation-trans, IsPermutation-to_front, IsPermutation-sym, IsPermutation-middle}}
use Rattle.std.proofs.lemmas.List.Sorted.{All-permutation}

-- a connection is scanned before another
abbrev pub Scanned : NetworkModel → ConnectionId → ConnectionId → Type 0
Scanned n a b = rank n a.0 < rank n b.0

IsPermutation-with_connection : (n : NetworkModel) (i : ℕ) (ids : List ConnectionId) → IsPermutation (record { 0 = i } ∷ ids) (with_connection n i ids)
IsPermutation-with_connection n i [] = IsPermutation-refl (record { 0 = i } ∷ [])
IsPermutation-with_connection n i (id ∷ ids) =
    let new : ConnectionId = record { 0 = i } in
    cond_both (ltb (rank n i) (rank n id.0)) (new ∷ id ∷ ids) (id ∷ with_connection n i ids) (λ (zs : List ConnectionId). IsPermutation (new ∷ id ∷ ids) zs)
    (λ e. IsPermutation-refl (new ∷ id ∷ ids))
    (λ e. IsPermutation-trans (new ∷ id ∷ ids) (id ∷ new ∷ ids) (id ∷ with_connection n i ids)
    (IsPermutation-sym (id ∷ new ∷ ids) (new ∷ id ∷ ids) (IsPermutation-middle (id ∷ []) new ids))
    (IsPermutation-cons id (new ∷ ids) (with_connection n i ids) (IsPermutation-with_connection n i ids)))

IsPermutation-in_order : (n : NetworkModel) (m : ℕ) → IsPermutation (ids_below m) (in_order n m)
IsPermutation-in_order n zero = IsPermutation-refl []
IsPermutation-in_order n (suc m) =
    let new : ConnectionId = record { 0 = m } in
    IsPermutation-trans (ids_below m ++ new ∷ []) (new ∷ ids_below m) (with_connection n m (in_order n m)) (IsPermutation-to_front (ids_below m) new)
    (IsPermutation-trans (new ∷ ids_below m) (new ∷ in_order n m) (with_connection n m (in_order n m))
    (IsPermutation-cons new (ids_below m) (in_order n m) (IsPermutation-in_order n m)) (IsPermutation-with_connection n m (in_order n m)))

pub All-in_order : (n : NetworkModel) (m : ℕ) → All (λ id. id.0 < m) (in_order n m)
All-in_order n m =
    All-permutation (λ id. id.0 < m) (ids_below m) (in_order n m) (IsPermutation-in_order n m)
    (λ k d within. let below : k < m = omega (arith, length_ids m) in subst (λ (id : ConnectionId). id.0 < m) (sym (get_ids m k d below)) below)

AllPairs-with_connection : (n : NetworkModel) (i : ℕ) (ids : List ConnectionId) → All (λ id. rank n id.0 ≡ rank n i → ⊥) ids → AllPairs (Scanned n) ids → AllPairs (Scanned n) (with_connection n i ids)
AllPairs-with_connection n i [] other pairs = λ k l d less within. absurd (omega arith)
AllPairs-with_connection n i (id ∷ ids) other pairs =
    let new : ConnectionId = record { 0 = i } in
    let after : All (Scanned n id) ids = AllPairs-first (Scanned n) id ids pairs in
    let apart : rank n id.0 ≡ rank n i → ⊥ = All-head (λ (x : ConnectionId). rank n x.0 ≡ rank n i → ⊥) id ids other in
    cond_both (ltb (rank n i) (rank n id.0)) (new ∷ id ∷ ids) (id ∷ with_connection n i ids) (AllPairs (Scanned n))
    (λ e. let less : rank n i < rank n id.0 = ltb-true (rank n i) (rank n id.0) e in
    AllPairs-cons (Scanned n) new (id ∷ ids) (All-cons (Scanned n new) id ids less (λ k d within. omega (arith, less, after k d within))) pairs)
    (λ e. let le : rank n id.0 ≤ rank n i = ltb-false (rank n i) (rank n id.0) e in
    AllPairs-cons (Scanned n) id (with_connection n i ids) (All-permutation (Scanned n id) (new ∷ ids) (with_connection n i ids) (IsPermutation-with_connection n i ids)
    (All-cons (Scanned n id) new ids (omega (arith, le, apart)) after))
    (AllPairs-with_connection n i ids (All-tail (λ (x : ConnectionId). rank n x.0 ≡ rank n i → ⊥) id ids other) (AllPairs-tail (Scanned n) id ids pairs)))

rank_apart : (n : NetworkModel) (i j : ℕ) → i < j → j < most_connections → rank n i ≡ rank n j → ⊥
rank_apart n i j less within e = omega arith

pub AllPairs-in_order : (n : NetworkModel) (m : ℕ) → m ≤ most_connections → AllPairs (Scanned n) (in_order n m)
AllPairs-in_order n zero few = λ k l d less within. absurd (omega arith)
AllPairs-in_order n (suc m) few =
    AllPairs-with_connection n m (in_order n m) (λ k d within. rank_apart n _ m (All-in_order n m k d within) (omega arith)) (AllPairs-in_order n m (omega arith))

earlier : (n : NetworkModel) → IsValid n → (i j : ℕ) → i < count n → j < count n → rank n i < rank n j → IsEarlier n i j
earlier n v i j h k less = grind (arith, common_steps)

pub IsScanOrder-in_order : (n : NetworkModel) → IsValid n → IsScanOrder n (in_order n (count n))
IsScanOrder-in_order n v =
    let m = count n in
    record {
      permutes = IsPermutation-in_order n m;
      rising = λ k l d less within. earlier n v _ _ (All-in_order n m k d (omega arith)) (All-in_order n m l d within) (AllPairs-in_order n m v.few_connections k l d less within);
    }

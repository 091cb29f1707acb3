-- Sorted keys.
use Rattle.csv_rows.proofs.Common.{◌≡◌, ℕ, ◌+◌, ◌<◌, ◌≤◌, arith, ⊎_elim, Bool, true, false, eqb, List, refl, ap, ◌∙◌, subst, ◌++◌, ◌∷◌, [], All, AllPairs, Contains, Ordering, is_lt, nat_cmp}
use Rattle.csv_rows.proofs.Common.{IsPermutation, IsSorted, ne_eqb, IsDistinct, All-push, All-weaker, Contains-append_left, Contains-push, all_pairs_push, get_or_default, cases_lt, eqb-false}
use Rattle.csv_rows.proofs.Common.{nat_tests, Key, no_key, IsAtMost, IsRising, AreSorted}
use Rattle.std.specs.{Cmp.IsTotalOrder, Ordering.ordering_then}
use Rattle.std.proofs.lemmas.{Cmp.{nat_cmp_total, on_total, then_total}, List.Sorted.{All-permutation, Contains-permutation, ranks_by, sorted_far}, Map.Keys.IsDistinct-from_apart}
use Rattle.std.proofs.lemmas.Map.Keys.{IsDistinct-IsPermutation, apart_from_distinct}

abbrev pub key_cmp : Key → Key → Ordering
key_cmp a b = ordering_then (nat_cmp a.group b.group) (ordering_then (nat_cmp a.order b.order) (nat_cmp a.row b.row))

key_cmp-total : IsTotalOrder key_cmp
key_cmp-total = then_total (on_total (λ (k : Key). k.group) nat_cmp_total) (then_total (on_total (λ (k : Key). k.order) nat_cmp_total) (on_total (λ
    (k : Key). k.row) nat_cmp_total))

at_most : (a b : Key) → is_lt (key_cmp b a) ≡ false → IsAtMost a b
at_most a b h = grind (arith, nat_tests)

pub rising : (ys : List Key) → IsSorted key_cmp ys → IsRising ys
rising ys up k l less h = at_most _ _ (sorted_far (λ a b. is_lt (key_cmp a b)) (ranks_by key_cmp-total (λ k. k)) ys up k l no_key (omega arith) h)

abbrev by_row : Key → Key → Bool
by_row a b = eqb a.row b.row

module _ (test : ℕ → Bool) (group order : ℕ → ℕ) where
  unfoldable pub key_of : ℕ → Key
  key_of i = record { group = group i; order = order i; row = i }

  unfoldable pub IsOwn : ℕ → Key → Type 0
  IsOwn m x = (x ≡ key_of x.row) × (x.row < m) × (test x.row ≡ true)

  -- the keys of those of the first m rows of which the test holds, in the order of the file
  pub record AreKeys (m : ℕ) (xs : List Key) : Type 0 where
    pub own : All (IsOwn m) xs
    pub all : (i : ℕ) → i < m → test i ≡ true → Contains xs (key_of i)
    pub rising : AllPairs (λ a b. a.row < b.row) xs

  pub keys-none : (xs : List Key) → xs ≡ [] → AreKeys 0 xs
  keys-none xs e = grind (arith, rising)

  -- a row that is taken
  pub keys-taken : (i : ℕ) (old new : List Key) (key : Key) → AreKeys i old → test i ≡ true → new ≡ old ++ key ∷ [] → key ≡ key_of i → AreKeys (i + 1) new
  unfolding key_of IsOwn
  keys-taken i old new key keys here e same =
      rw (e, same) (record {
        own = All-push (IsOwn (i + 1)) old (key_of i) (All-weaker (IsOwn i) (IsOwn (i + 1)) (λ x p. (p.0, omega (arith, p.1), p.2)) old keys.own)
            (refl, omega arith, here);
        all = λ j h t.
            ⊎_elim (λ (before : j < i). Contains-append_left old (key_of i ∷ []) (key_of j) (keys.all j before t))
            (λ (end : i ≤ j). let m : i ≡ j = omega arith in subst (λ k. Contains (old ++ key_of i ∷ []) (key_of k)) m (Contains-push old (key_of i)))
            (cases_lt j i);
        rising = all_pairs_push (λ a b. a.row < b.row) old (key_of i) keys.rising (λ k d l. (keys.own k d l).1);
      })

  -- in another order, which rises, they are sorted
  pub sorted_are : (n : ℕ) (xs ys : List Key) → AreKeys n xs → IsPermutation xs ys → IsRising ys → AreSorted test group order n ys
  unfolding IsOwn key_of
  sorted_are n xs ys keys moved up =
      let distinct : IsDistinct by_row xs = IsDistinct-from_apart by_row xs (λ i j d less inside. ne_eqb _ _ (λ e. omega
      (arith, e, keys.rising i j d less inside))) in
      let apart = IsDistinct-IsPermutation by_row (λ x y. grind (arith, nat_tests)) xs ys moved distinct in
      let own = All-permutation (IsOwn n) xs ys moved keys.own in
      record {
        inside = λ k h. (own k no_key h).1;
        groups = λ k h. ap (λ (w : Key). w.group) (own k no_key h).0;
        orders = λ k h. ap (λ (w : Key). w.order) (own k no_key h).0;
        taken = λ k h. (own k no_key h).2;
        all = λ i h t.
            let found = Contains-permutation xs ys (key_of i) moved (keys.all i h t) in
            (found.0, found.1, ap (λ (w : Key). w.row) (get_or_default ys found.0 no_key (key_of i) found.1 ∙ found.2));
        once = λ k l less h. eqb-false _ _ (apart_from_distinct by_row ys k l no_key apart less (omega arith));
        rising = up;
      }

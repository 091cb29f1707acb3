-- The keys of the kept rows, by those of all rows.
use Rattle.stop_times.proofs.Common.{true, List, sym, subst, Key, AreKeysOf, ◌≡◌, ℕ, ◌<◌, zero, suc, Bool, false, cond, [], ◌∷◌, length, get_or, Contains, refl, ap, ◌∙◌, arith, All, AllPairs}
use Rattle.stop_times.proofs.Common.{filter, cases_Bool, get_or_default, no_key, key_at, IsAtMost, TimedRow, trip_of, sequence_of, is_kept}
use Rattle.std.proofs.lemmas.List.{Elements.{All-filter, filter_passes}, Kept.AllPairs-filter}
use Rattle.stop_times.proofs.keys.kept_keys.Goals as goal

all_of : (P : Key → Type 0) (keys : List Key) → ((k : ℕ) → k < length keys → P (key_at keys k)) → All P keys
all_of P keys each = λ k d h. subst P (get_or_default keys k no_key d h) (each k h)

pairs_of : (R : Key → Key → Type 0) (keys : List Key) → ((k l : ℕ) → k < l → l < length keys → R (key_at keys k) (key_at keys l)) → AllPairs R keys
pairs_of R keys each = λ k l d less h.
    let first : key_at keys k ≡ get_or keys k d = get_or_default keys k no_key d (omega arith) in
    let last : key_at keys l ≡ get_or keys l d = get_or_default keys l no_key d h in
    subst (λ (b : Key). R (get_or keys k d) b) last (subst (λ (a : Key). R a (key_at keys l)) first (each k l less h))

one_more : (b : Bool) (y x : Key) (ys : List Key) → Contains ys x → Contains (cond b (y ∷ ys) ys) x
one_more true y x ys c = (suc c.0, omega (arith, c.1), c.2)
one_more false y x ys c = c

passing : (b : Bool) (y x : Key) (ys : List Key) → b ≡ true → y ≡ x → Contains (cond b (y ∷ ys) ys) x
passing b y x ys t e = grind (arith, cases_Bool b)

-- what passes is in the filter
in_filter : (p : Key → Bool) (keys : List Key) (x : Key) (k : ℕ) → k < length keys → get_or keys k x ≡ x → p x ≡ true → Contains (filter p keys) x
in_filter p [] x k h e t = absurd (omega arith)
in_filter p (y ∷ ys) x zero h e t = passing (p y) y x (filter p ys) (ap p e ∙ t) e
in_filter p (y ∷ ys) x (suc k) h e t = one_more (p y) y x (filter p ys) (in_filter p ys x k (omega arith) e t)

-- they are of different rows
abbrev Apart : Key → Key → Type 0
Apart a b = a.row ≡ b.row → ⊥

-- sorted keys of all rows leave sorted keys of the kept ones
pub kept_sorted : (rows : List TimedRow) (keys : List Key) → AreKeysOf false rows keys → AreKeysOf true rows (filter (λ key. is_kept rows key.row) keys)
kept_sorted rows keys s =
    let p : Key → Bool = λ key. is_kept rows key.row in
    record {
      inside = λ k h. All-filter p (λ key. key.row < length rows) keys (all_of (λ key. key.row < length rows) keys s.inside) k no_key h;
      groups = λ k h. All-filter p (λ key. key.group ≡ trip_of rows key.row) keys (all_of (λ key. key.group ≡ trip_of rows key.row) keys s.groups) k no_key h;
      orders = λ k h. All-filter p (λ key. key.order ≡ sequence_of rows key.row) keys (all_of (λ key. key.order ≡ sequence_of rows key.row) keys s.orders) k no_key h;
      taken = λ k h. filter_passes p keys k no_key h;
      all = λ i inside kept.
          let w = s.all i inside refl in
          let x = key_at keys w.0 in
          let found = in_filter p keys x w.0 w.1 (get_or_default keys w.0 x no_key w.1) (ap (is_kept rows) w.2 ∙ kept) in
          (found.0, found.1, ap (λ (key : Key). key.row) (get_or_default (filter p keys) found.0 no_key x found.1 ∙ found.2) ∙ w.2);
      once = λ k l less h. AllPairs-filter Apart p keys (pairs_of Apart keys s.once) k l no_key less h;
      rising = λ k l less h. AllPairs-filter IsAtMost p keys (pairs_of IsAtMost keys s.rising) k l no_key less h;
    }

pub returns-clause-keys : goal.returns-clause-keys
returns-clause-keys c =
    let rows = c.args.rows.now in
    let P : List Key → Type 0 = λ keys. AreKeysOf true rows keys in
    subst P (sym c.retain_kept.ensures.kept) (kept_sorted rows c.args.keys.items c.requires)

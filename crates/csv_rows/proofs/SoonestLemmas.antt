-- The soonest of the faults of rows, key by key, and that it is the first.
use Rattle.csv_rows.proofs.Common.{◌≡◌, ℕ, ◌+◌, ◌<◌, ◌≤◌, nat_lt, Bool, true, false, ◌⊎◌, List, length, Option, Some, None, option_map, if◌then◌else◌, sym, subst, arith, ⊎_elim, below_more}
use Rattle.csv_rows.proofs.{Common.{cases_Bool, ltb-true, ltb-false, first_below, Key, key_at, AreSorted, sooner}, FirstLemmas.{first-none, first-at}}

-- of the rows of the first m keys this one is the first that has a fault, or none has
abbrev pub IsSoonest : {F : Type 0} → (ℕ → Option F) → ℕ → List Key → ℕ → Option (ℕ × F) → Type 0
IsSoonest f n keys m None = (k : ℕ) → k < m → f (key_at keys k).row ≡ None
IsSoonest f n keys m (Some x) = (f x.0 ≡ Some x.1) × (x.0 < n) × ((k : ℕ) → k < m → (f (key_at keys k).row ≡ None) ⊎ (x.0 ≤ (key_at keys k).row))

module _ {F : Type 0} (f : ℕ → Option F) (n : ℕ) (keys : List Key) where
  row : ℕ → ℕ
  row k = (key_at keys k).row

  nearer : (m : ℕ) (x : ℕ × F) (e : F) (b : Bool) → nat_lt x.0 (row m) ≡ b → row m < n → f (row m) ≡ Some e → IsSoonest f n keys m (Some x)
      → IsSoonest f n keys (m + 1) (if b then Some x else Some (row m, e))
  unfolding row
  nearer m x e b less inside here h = grind (arith, cases_Bool b, row, ltb-true, ltb-false)

  step : (m : ℕ) (first : Option (ℕ × F)) (o : Option F) → row m < n → f (row m) ≡ o → IsSoonest f n keys m first → IsSoonest f n keys (m + 1) (sooner first (row m) o)
  unfolding row
  step m first o inside here h = grind (arith, below_more, row, nearer)

  -- one more key
  pub soonest-next : (m : ℕ) (old new : Option (ℕ × F)) (o : Option F) → (key_at keys m).row < n → f (key_at keys m).row ≡ o → new ≡ sooner old (key_at keys m).row o
      → IsSoonest f n keys m old → IsSoonest f n keys (m + 1) new
  unfolding row
  soonest-next m old new o inside here e h = subst (IsSoonest f n keys (m + 1)) (sym e) (step m old o inside here h)

  -- where each row that has a fault has a key, the soonest is the first
  pub soonest-first : (test : ℕ → Bool) (group order : ℕ → ℕ) → AreSorted test group order n keys → ((i : ℕ) → test i ≡ false → f i ≡ None)
      → (m : ℕ) → length keys ≤ m → (first : Option (ℕ × F)) → IsSoonest f n keys m first → first_below f n ≡ option_map (λ x. x.1) first
  soonest-first test group order s quiet m long None h = grind (arith, first-none, cases_Bool)
  soonest-first test group order s quiet m long (Some x) h =
      first-at f x.0 n x.1 h.1
      (first-none f x.0 (λ i l.
      ⊎_elim (λ (t : test i ≡ true).
      let w = s.all i (omega (arith, h.1)) t in
      ⊎_elim (λ (none : f (key_at keys w.0).row ≡ None). let P : ℕ → Type 0 = λ j. f j ≡ None in subst P w.2 none)
      (λ (late : x.0 ≤ (key_at keys w.0).row). absurd (omega (arith, late, w.2))) (h.2 w.0 (omega (arith, w.1))))
      (λ (p : test i ≡ false). quiet i p) (cases_Bool (test i))))
      h.0

-- What the key before a key says of the rows before its row in its group.
use Rattle.csv_rows.proofs.Common.{rules, ◌≡◌, ◌≢◌, ℕ, ◌-◌, ◌<◌, ◌≤◌, ◌==◌, nat_lt, ◌⊎◌, Bool, true, false, not, ◌&&◌, List, length, Option, Some, None, IfSome, if◌then◌else◌, refl, sym, ap, ◌∙◌}
use Rattle.csv_rows.proofs.Common.{ltb-true, subst, arith, ⊎_elim, eq-or-lt_of_le, eqb-true, eq-eqb, lt-ltb, true≢false, common_steps, cases_lt, cases_Bool, and_from, and_parts, not_from_false}
use Rattle.csv_rows.proofs.{Common.{not-true, first_below, any_below, Key, key_at, IsAtMost, AreSorted, IsBefore, has_twin, twin_at, repeated, precedes, just_precedes}, FirstLemmas.any-true}
use Rattle.csv_rows.proofs.FirstLemmas.{any-false, any-one, any-none, none-each}

pub less_group : (a b : Key) → IsAtMost a b → a.group ≤ b.group
less_group a b h = ⊎_elim (λ x. omega arith) (λ x. omega (arith, x.0)) h

-- of one group the orders rise, and of one order the rows
less_orders : (a b : Key) → IsAtMost a b → a.group ≡ b.group → a.order ≤ b.order
less_orders a b h group = ⊎_elim (λ x. absurd (omega (arith, group, x))) (λ x. ⊎_elim (λ y. omega (arith, y)) (λ y. omega (arith, y.0)) x.1) h

less_rows : (a b : Key) → IsAtMost a b → a.group ≡ b.group → a.order ≡ b.order → a.row ≤ b.row
less_rows a b h group order = ⊎_elim (λ x. absurd (omega (arith, group, x))) (λ x. ⊎_elim (λ y. absurd (omega (arith, y, order))) (λ y. y.1) x.1) h

twin : (ℕ → ℕ) → (ℕ → ℕ) → ℕ → ℕ → Bool
twin group order i j = (group j == group i) && (order j == order i)

some_not : {F : Type 0} (b : Bool) (e : F) → b ≡ true → (if b then Some e else None) ≢ None
some_not b e h k = grind (arith, cases_Bool b)

-- no two rows have one group and one order
abbrev pub AreApart : (group order : ℕ → ℕ) → ℕ → Type 0
AreApart group order n = (j i : ℕ) → j < i → i < n → group j ≡ group i → order j ≡ order i → ⊥

pub no_twins : {F : Type 0} (fault : ℕ → F) (group order : ℕ → ℕ) (n : ℕ) → first_below (λ i. if has_twin group order i then Some (fault i) else None) n ≡ None → AreApart group order n
unfolding twin
no_twins fault group order n none j i less inside same same' =
    let here : twin group order i j ≡ true = and_from (group j == group i) (order j == order i) (eq-eqb _ _ same) (eq-eqb _ _ same') in
    some_not (has_twin group order i) (fault i) (any-true (twin group order i) i j less here) (none-each (λ i. if has_twin group order i then Some (fault i) else None) n none i inside)

abbrev pub asked : (ℕ → Bool) → Option Key → Bool
asked q None = false
asked q (Some before) = q before.row

module _ (test : ℕ → Bool) (group order : ℕ → ℕ) (n : ℕ) (keys : List Key) (s : AreSorted test group order n keys) where
  earlier_row : (k m : ℕ) → k < m → m < length keys → (key_at keys k).group ≡ (key_at keys m).group → (key_at keys k).order ≡ (key_at keys m).order
      → (key_at keys k).row < (key_at keys m).row
  earlier_row k m less h same same' = grind (arith, common_steps, less_rows)

  -- an earlier key of the group is the one before, or comes before that
  earlier_key : (m k : ℕ) → m < k → k < length keys → (key_at keys m).group ≡ (key_at keys k).group
      → ((key_at keys (k - 1)).group ≡ (key_at keys k).group) × ((key_at keys m).order ≤ (key_at keys (k - 1)).order) × ((m ≡ k - 1) ⊎ (m < k - 1))
  earlier_key m k l inside same = search (rules, less_group, less_orders)

  pub before_inside : (k : ℕ) → k < length keys → (o : Option Key) → IsBefore keys k o → IfSome o (λ b. b.row < n)
  before_inside k h o b = grind arith

  -- the orders of a group rise, where no two rows have one group and one order
  pub rises : AreApart group order n → (k m : ℕ) → k < m → m < length keys → (key_at keys k).group ≡ (key_at keys m).group → (key_at keys k).order < (key_at keys m).order
  rises apart k m less h same =
      ⊎_elim (λ (e : (key_at keys k).order ≡ (key_at keys m).order).
      absurd (apart (key_at keys k).row (key_at keys m).row (earlier_row k m less h same e) (s.inside m h)
      (sym (s.groups k (omega arith)) ∙ same ∙ s.groups m h) (sym (s.orders k (omega arith)) ∙ e ∙ s.orders m h)))
      (λ (lower : (key_at keys k).order < (key_at keys m).order). lower)
      (eq-or-lt_of_le (less_orders (key_at keys k) (key_at keys m) (s.rising k m less h) same))

  -- of one group the key with the lower order comes before
  lower : AreApart group order n → (m k : ℕ) → m < length keys → k < length keys → (key_at keys m).group ≡ (key_at keys k).group → (key_at keys m).order < (key_at keys k).order → m < k
  lower apart m k g h same less = search (rules, rises)

  ahead : ℕ → ℕ → Bool
  ahead j i = precedes test group order j i

  ahead_from : (m k : ℕ) → m < length keys → k < length keys → ahead (key_at keys m).row (key_at keys k).row ≡ true
      → ((key_at keys m).group ≡ (key_at keys k).group) × ((key_at keys m).order < (key_at keys k).order)
  unfolding ahead
  ahead_from m k g h b = grind (arith, common_steps, and_parts, eqb-true, ltb-true)

  ahead_to : (m k : ℕ) → m < length keys → k < length keys → (key_at keys m).group ≡ (key_at keys k).group → (key_at keys m).order < (key_at keys k).order
      → ahead (key_at keys m).row (key_at keys k).row ≡ true
  unfolding ahead
  ahead_to m k g h same less = grind (arith, common_steps, and_from, eq-eqb, lt-ltb)

  -- the test holds of a row that comes before, and so it has a key
  key_of_first : (x i : ℕ) → x < n → ahead x i ≡ true → (k : ℕ) × (k < length keys) × ((key_at keys k).row ≡ x)
  unfolding ahead
  key_of_first x i less b = s.all x less (and_parts (test x) (test i) (and_parts (test x && test i) ((group x == group i) && nat_lt (order x) (order i)) b).0).0

  between : ℕ → ℕ → ℕ → Bool
  between j i x = ahead j x && ahead x i

  just : ℕ → ℕ → Bool
  just j i = ahead j i && not (any_below (between j i) n)

  -- the row of the key before comes just before
  just_to : AreApart group order n → (k : ℕ) → 0 < k → k < length keys → (key_at keys (k - 1)).group ≡ (key_at keys k).group → just (key_at keys (k - 1)).row (key_at keys k).row ≡ true
  unfolding just between
  just_to apart k some h same = grind (arith, common_steps, common_steps, and_from, ahead_to, rises, not_from_false, any-false, between, and_parts, ahead, key_of_first, ahead_from, lower)

  -- and no other does
  just_from : AreApart group order n → (k : ℕ) → k < length keys → (x : ℕ) → x < n → just x (key_at keys k).row ≡ true
      → (0 < k) × (x ≡ (key_at keys (k - 1)).row) × ((key_at keys (k - 1)).group ≡ (key_at keys k).group)
  unfolding just between
  just_from apart k h x inside b =
      let i = (key_at keys k).row in
      let p = and_parts (ahead x i) (not (any_below (between x i) n)) b in
      let w = key_of_first x i inside p.0 in
      let m = w.0 in
      let q = ahead_from m k w.1 h (subst (λ (y : ℕ). ahead y i ≡ true) (sym w.2) p.0) in
      let less = lower apart m k w.1 h q.0 q.1 in
      let e = earlier_key m k less h q.0 in (
        omega arith,
        sym w.2 ∙ ap (λ y. (key_at keys y).row)
            (⊎_elim (λ (last : m ≡ k - 1). last) (λ (early : m < k - 1).
            let c = (key_at keys (k - 1)).row in
            let first = ahead_to m (k - 1) w.1 (omega arith) (q.0 ∙ sym e.0) (rises apart m (k - 1) early (omega arith) (q.0 ∙ sym e.0)) in
            let second = ahead_to (k - 1) k (omega arith) h e.0 (rises apart (k - 1) k (omega arith) h e.0) in
            let there = and_from (ahead x c) (ahead c i) (subst (λ (y : ℕ). ahead y c ≡ true) w.2 first) second in
            absurd (true≢false (sym (any-true (between x i) n c (s.inside (k - 1) (omega arith)) there) ∙ not-true (any_below (between x i) n) p.1))) e.2),
        e.0,
      )

  -- what is asked of the rows just before a row is asked of the row of the key before
  pub asked_before : AreApart group order n → (k : ℕ) → k < length keys → (o : Option Key) → IsBefore keys k o → (q : ℕ → Bool)
      → any_below (λ j. just_precedes test group order n j (key_at keys k).row && q j) n ≡ asked q o
  unfolding just between ahead
  asked_before apart k h None b q = any-none (λ j. just j (key_at keys k).row) q n (λ x less t. let w = just_from apart k h x less t in b w.0 w.2)
  asked_before apart k h (Some before) b q =
      let j = (key_at keys (k - 1)).row in
      let e : before.row ≡ j = ap (λ (x : Key). x.row) b.1 in
      let same : (key_at keys (k - 1)).group ≡ (key_at keys k).group = ap (λ (x : Key). x.group) (sym b.1) ∙ b.2 in
      any-one (λ x. just x (key_at keys k).row) q n j (s.inside (k - 1) (omega arith)) (just_to apart k b.0 h same) (λ x less t. (just_from apart k h x less t).1) ∙ ap q (sym e)

module _ (group order : ℕ → ℕ) (n : ℕ) (keys : List Key) (s : AreSorted (λ i. true) group order n keys) where
  -- a row that is repeated comes before, in the order of the keys
  twin_before : (k j : ℕ) → k < length keys → j < (key_at keys k).row → twin group order (key_at keys k).row j ≡ true
      → (0 < k) × ((key_at keys (k - 1)).group ≡ (key_at keys k).group) × ((key_at keys (k - 1)).order ≡ (key_at keys k).order)
  unfolding twin
  twin_before k j h less b =
      let i = (key_at keys k).row in
      let w = s.all j (omega (arith, s.inside k h)) refl in
      let m = w.0 in
      let p = and_parts (group j == group i) (order j == order i) b in
      let same : (key_at keys m).group ≡ (key_at keys k).group = s.groups m w.1 ∙ ap group w.2 ∙ eqb-true (group j) (group i) p.0 ∙ sym (s.groups k h) in
      let same' : (key_at keys m).order ≡ (key_at keys k).order = s.orders m w.1 ∙ ap order w.2 ∙ eqb-true (order j) (order i) p.1 ∙ sym (s.orders k h) in
      ⊎_elim (λ (low : m < k).
      let e = earlier_key (λ i. true) group order n keys s m k low h same in
      (omega arith, e.0, omega (arith, e.1, same', less_orders (key_at keys (k - 1)) (key_at keys k) (s.rising (k - 1) k (omega arith) h) e.0)))
      (λ (ge : k ≤ m).
      ⊎_elim (λ (e : k ≡ m). absurd (omega (arith, less, w.2, ap (λ i. (key_at keys i).row) e)))
      (λ (up : k < m). absurd (omega (arith, w.2, less, earlier_row (λ i. true) group order n keys s k m up w.1 (sym same) (sym same')))) (eq-or-lt_of_le ge))
      (cases_lt m k)

  reported : Bool → ℕ → Option ℕ
  reported b i = if b then Some i else None

  pub twin_is : (k : ℕ) → k < length keys → (o : Option Key) → IsBefore keys k o → twin_at group order (key_at keys k).row ≡ repeated o (key_at keys k)
  unfolding twin_at twin reported
  twin_is k h None b = grind (arith, reported, any-false, twin, twin_before)
  twin_is k h (Some x) b =
      let i = (key_at keys k).row in let j = (key_at keys (k - 1)).row in
      let e : x.order ≡ (key_at keys (k - 1)).order = ap (λ (y : Key). y.order) b.1 in
      let same : (key_at keys (k - 1)).group ≡ (key_at keys k).group = ap (λ (y : Key). y.group) (sym b.1) ∙ b.2 in
      ap (λ t. reported t i)
      (⊎_elim (λ (t : (x.order == (key_at keys k).order) ≡ true).
      let same' : (key_at keys (k - 1)).order ≡ (key_at keys k).order = sym e ∙ eqb-true x.order (key_at keys k).order t in
      let g : k - 1 < length keys = omega arith in
      any-true (twin group order i) i j (earlier_row (λ i. true) group order n keys s (k - 1) k (omega (arith, b.0)) h same same')
      (and_from (group j == group i) (order j == order i) (eq-eqb _ _ (sym (s.groups (k - 1) g) ∙ same ∙ s.groups k h)) (eq-eqb _ _ (sym (s.orders (k - 1) g) ∙ same' ∙ s.orders k h)))
      ∙ sym t)
      (λ (f : (x.order == (key_at keys k).order) ≡ false).
      any-false (twin group order i) i (λ y less t.
      let w = twin_before k y h less t in
      let never : true ≡ false = sym (eq-eqb x.order (key_at keys k).order (e ∙ w.2)) ∙ f in cc) ∙ sym f)
      (cases_Bool (x.order == (key_at keys k).order)))

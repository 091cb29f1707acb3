-- The first entry with a path, by its index.
use Rattle.file_ports.proofs.Common.{◌≡◌, ◌<◌, ◌≤◌, ℕ, ◌+◌, List, [], ◌∷◌, ◌++◌, Bool, true, false, get_or, set, length, refl, ap, sym, ◌∙◌, subst, arith, length-append, Option, None, Some}
use Rattle.file_ports.proofs.Common.{if◌then◌else◌, bytes_eq, string_bytes, position, get_or-set_same, get_or-set_other, length-set, cond_both, common_steps, get_or_append_left, get_or_push}
use Rattle.file_ports.proofs.Common.{position-Some, bytes_eq-Decides, Named, value_at}
use Rattle.std.proofs.lemmas.List.{Recursion.{found_at, found_nowhere, found_set_other, found_push_other}, Sums.fails_before_first}
use Rattle.std.specs.List.{position_or_len}

-- the test of a path
abbrev pub at_path : {T : Type 0} → List ℕ → Named T → Bool
at_path q e = bytes_eq (string_bytes e.path) q

pub get_or_next : {A : Type 0} (x : A) (xs : List A) (n : ℕ) (d : A) → get_or (x ∷ xs) (1 + n) d ≡ get_or xs n d
get_or_next x xs n d = grind (arith, common_steps)

same_path : (x y : List ℕ) → bytes_eq x y ≡ true → x ≡ y
same_path x y h = (bytes_eq-Decides x y).0 h

none_pass : {A : Type 0} (p : A → Bool) (xs : List A) → position p xs ≡ None → length xs ≤ position_or_len p xs
none_pass p xs h = grind (arith, common_steps)

pub none_at : {A : Type 0} (p : A → Bool) (xs : List A) → position p xs ≡ None → (k : ℕ) (d : A) → k < length xs → p (get_or xs k d) ≡ false
none_at p xs h k d l = let far = none_pass p xs h in fails_before_first p xs k d (omega arith)

module _ {T : Type 0} where
  -- where the first entry with the path is
  first_at : (es : List (Named T)) (q : List ℕ) (i : ℕ) (e : Named T) → i < length es → ((k : ℕ) → k < i → at_path q (get_or es k e) ≡ false)
      → get_or es i e ≡ e → string_bytes e.path ≡ q → value_at es q ≡ Some e.value
  first_at es q i e inside before here is =
      let own : at_path q (get_or es i e) ≡ true = ap (at_path q) here ∙ (bytes_eq-Decides (string_bytes e.path) q).1 is in
      found_at (λ (es : List (Named T)). value_at es q) (at_path q) (λ e. Some e.value) None refl (λ _ _. refl) es i e inside before own
      ∙ ap (λ (e : Named T). Some e.value) here

  -- what a search by path gives
  pub position_gives_none : (es : List (Named T)) (q : List ℕ) → position (at_path q) es ≡ None → value_at es q ≡ None
  position_gives_none [] q h = refl
  position_gives_none (e ∷ es) q h =
      found_nowhere (λ (es : List (Named T)). value_at es q) (at_path q) (λ e. Some e.value) None refl (λ _ _. refl) (e ∷ es) e (λ k l. none_at (at_path q)
      (e ∷ es) h k e l)

  pub position_gives : (es : List (Named T)) (q : List ℕ) (i : ℕ) (d : Named T) → position (at_path q) es ≡ Some i
      → (i < length es) × (value_at es q ≡ Some (get_or es i d).value)
  position_gives es q i d h =
      let s = position-Some (at_path q) es i d h in
      (s.0, found_at (λ (es : List (Named T)). value_at es q) (at_path q) (λ e. Some e.value) None refl (λ _ _. refl) es i d s.0 s.2 s.1)

  -- a value put at a path, where nothing changes at the others
  put_by : (old new : List (Named T)) (q r : List ℕ) (v : T) → value_at new q ≡ Some v → (bytes_eq q r ≡ false → value_at new r ≡ value_at old r)
      → value_at new r ≡ if◌then◌else◌ (bytes_eq q r) (Some v) (value_at old r)
  put_by old new q r v here others =
      cond_both (bytes_eq q r) (Some v) (value_at old r) (λ (o : Option T). value_at new r ≡ o) (λ e. subst (λ z. value_at new z ≡ Some v)
      (same_path q r e) here) others

  -- a new value at the first index with this path
  pub set_gives : (es : List (Named T)) (q r : List ℕ) (i : ℕ) (w : Named T) → position (at_path q) es ≡ Some i → string_bytes w.path ≡ q
      → value_at (set es i w) r ≡ if◌then◌else◌ (bytes_eq q r) (Some w.value) (value_at es r)
  set_gives es q r i w h same =
      let s = position-Some (at_path q) es i w h in
      let size = length-set es i w in
      put_by es (set es i w) q r w.value
      (first_at (set es i w) q i w (omega arith) (λ k l. ap (at_path q) (get_or-set_other es i k w w (λ e. omega (arith, l, e)))
      ∙ s.2 k l) (get_or-set_same es i w w s.0) same)
      (λ other. found_set_other (λ (es : List (Named T)). value_at es r) (at_path r) (λ e. Some e.value) None refl (λ _ _. refl) es i w w
      (ap (λ z. bytes_eq z r) (same_path (string_bytes (get_or es i w).path) q s.1) ∙ other) (ap (λ z. bytes_eq z r) same ∙ other))

  -- a new entry, whose path has none yet
  pub push_gives : (es : List (Named T)) (r : List ℕ) (w : Named T) → position (at_path (string_bytes w.path)) es ≡ None
      → value_at (es ++ w ∷ []) r ≡ if◌then◌else◌ (bytes_eq (string_bytes w.path) r) (Some w.value) (value_at es r)
  push_gives es r w h =
      let q = string_bytes w.path in
      let size = length-append es (w ∷ []) in
      put_by es (es ++ w ∷ []) q r w.value
      (first_at (es ++ w ∷ []) q (length es) w (omega arith) (λ k l. ap (at_path q) (get_or_append_left es (w ∷ []) w k l)
      ∙ none_at (at_path q) es h k w l) (get_or_push es w w (length es) refl) refl)
      (λ other. found_push_other (λ (es : List (Named T)). value_at es r) (at_path r) (λ e. Some e.value) None refl (λ _ _. refl) es w other)

-- what a search answered, of the list that was lent
pub searched : {T : Type 0} (es lent : List (Named T)) (q : List ℕ) (r w : Option ℕ) → r ≡ position (at_path q) lent → lent ≡ es → r ≡ w → position (at_path q) es ≡ w
searched es lent q r w a b k = ap (λ z. position (at_path q) z) (sym b) ∙ sym a ∙ k

-- the first entry with this path is at i
pub record IsEntryAt {T : Type 0} (es : List (Named T)) (q : List ℕ) (i : ℕ) (e : Named T) : Type 0 where
  pub position_is : position (at_path q) es ≡ Some i
  pub item : e ≡ get_or es i e

pub entry_at : {T : Type 0} (es lent : List (Named T)) (q : List ℕ) (i : ℕ) (e : Named T) (r : Option ℕ) → r ≡ position (at_path q) lent → lent ≡ es
    → r ≡ Some i → e ≡ get_or es i e → IsEntryAt es q i e
entry_at es lent q i e r a b k h = record { position_is = searched es lent q r (Some i) a b k; item = h }

pub found : {T : Type 0} (es : List (Named T)) (q : List ℕ) (i : ℕ) (e : Named T) → IsEntryAt es q i e → value_at es q ≡ Some e.value
found es q i e s = (position_gives es q i e s.position_is).1 ∙ ap (λ (x : Named _). Some x.value) (sym s.item)

pub path_is : {T : Type 0} (es : List (Named T)) (q : List ℕ) (i : ℕ) (e : Named T) → IsEntryAt es q i e → string_bytes e.path ≡ q
path_is es q i e s = grind (arith, position-Some, bytes_eq-Decides)

-- a value put in the place of the one at this path
pub put_over : {T : Type 0} (es : List (Named T)) (q p : List ℕ) (i : ℕ) (v : T) (e : Named T) → IsEntryAt es q i e
    → value_at (set es i (record { path = e.path; value = v })) p ≡ if◌then◌else◌ (bytes_eq q p) (Some v) (value_at es p)
put_over es q p i v e s = set_gives es q p i (record { path = e.path; value = v }) s.position_is (path_is es q i e s)

-- or at the end
pub put_last : {T : Type 0} (es lent new : List (Named T)) (q p : List ℕ) (w : Named T) (r : Option ℕ) → r ≡ position (at_path q) lent → lent ≡ es → r ≡ None
    → string_bytes w.path ≡ q → new ≡ es ++ w ∷ [] → value_at new p ≡ if◌then◌else◌ (bytes_eq q p) (Some w.value) (value_at es p)
put_last es lent new q p w r a b k path n = grind (arith, searched, push_gives)

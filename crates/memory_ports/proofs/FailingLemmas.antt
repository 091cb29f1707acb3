-- What a counted failure changes.
use Rattle.memory_ports.proofs.Common.{◌≡◌, ◌≢◌, ◌≤◌, ℕ, ◌+◌, List, [], ◌∷◌, ◌++◌, Vec, Global, ◌||◌, ◌&&◌, Bool, true, false, length, get_or, set, refl, ap, sym, ◌∙◌, arith, min, ◌^◌, ◌-◌}
use Rattle.memory_ports.proofs.Common.{length-append, list_any, Named, Failing, value_at, faults_in, fails_in, SameFailing, at_path, none_at, position_gives_none, set_gives, searched, IsEntryAt}
use Rattle.memory_ports.proofs.Common.{found, path_is, put_over, put_last}
use Rattle.std.specs.Prelude.{Option, None, Some, Result, OnErr, if◌then◌else◌, bytes_eq, string_bytes, position, option_map, nat_eq, unwrap_or}
use Rattle.std.proofs.lemmas.{Bool.{cond_both, false_from_ne_true}, Grind.common_steps, List.{get_or_append_left, get_or_push, Folds.list_any-append, Sums.position_or_len_is}}
use Rattle.std.proofs.lemmas.Slice.Eq.{bytes_eq-Decides}

-- an entry with a new path is at the end
pub push_stands : {T : Type 0} (es : List (Named T)) (q : List ℕ) (w : Named T) → string_bytes w.path ≡ q → position (at_path q) es ≡ None
    → position (at_path q) (es ++ w ∷ []) ≡ Some (length es)
push_stands es q w path h =
    let own : at_path q (get_or (es ++ w ∷ []) (length es) w) ≡ true = ap (at_path q) (get_or_push es w w (length es) refl)
    ∙ (bytes_eq-Decides (string_bytes w.path) q).1 path in
    let last = position_or_len_is (at_path q) (es ++ w ∷ []) (length es) w (omega (arith, length-append es (w ∷ [])))
    (λ k l. ap (at_path q) (get_or_append_left es (w ∷ []) w k l) ∙ none_at (at_path q) es h k w l) (λ l. own) in
    grind (arith, common_steps, last)

-- its count, and whether it names the call
abbrev pub count_of : Option Failing → ℕ
count_of o = unwrap_or (option_map (λ (x : Failing). x.faults) o) 0

abbrev pub names_of : ℕ → Option Failing → Bool
names_of call o = unwrap_or (option_map (λ (x : Failing). list_any (λ c. nat_eq c call) x.calls.items) o) false

pub fails_none : (es lent : List (Named Failing)) (q : List ℕ) (call : ℕ) (r : Option ℕ) → r ≡ position (at_path q) lent → lent ≡ es → r ≡ None
    → false ≡ fails_in es q call
fails_none es lent q call r a b k = sym (ap (names_of call) (position_gives_none es q (searched es lent q r None a b k)))

pub fails_found : (es : List (Named Failing)) (q : List ℕ) (call i : ℕ) (e : Named Failing) (b : Bool) → IsEntryAt es q i e
    → b ≡ list_any (λ c. nat_eq c call) e.value.calls.items → b ≡ fails_in es q call
fails_found es q call i e b s h = h ∙ sym (ap (names_of call) (found es q i e s))

-- this entry with this count
abbrev pub counted : Named Failing → ℕ → Named Failing
counted e n = record { path = e.path; value = record { calls = e.value.calls; faults = n } }

set_value : (es : List (Named Failing)) (q p : List ℕ) (i n : ℕ) (e : Named Failing) → IsEntryAt es q i e
    → value_at (set es i (counted e n)) p ≡ if◌then◌else◌ (bytes_eq q p) (Some (counted e n).value) (value_at es p)
set_value es q p i n e s = set_gives es q p i (counted e n) s.position_is (path_is es q i e s)

pub count_here : (es : List (Named Failing)) (q : List ℕ) (i n : ℕ) (e : Named Failing) → IsEntryAt es q i e → n ≡ min (e.value.faults + 1) (2 ^ 64 - 1)
    → faults_in (set es i (counted e n)) q ≡ min (faults_in es q + 1) (2 ^ 64 - 1)
count_here es q i n e s h =
    let k : bytes_eq q q ≡ true = (bytes_eq-Decides q q).1 refl in
    let a : value_at (set es i (counted e n)) q ≡ Some (counted e n).value
    = set_value es q q i n e s ∙ ap (λ b. if◌then◌else◌ b (Some (counted e n).value) (value_at es q)) k in
    ap count_of a ∙ h ∙ ap (λ o. min (count_of o + 1) (2 ^ 64 - 1)) (sym (found es q i e s))

-- what is the same of the new value and of the old one at its path, is the same at each path
same_by : {A : Type 0} (f : Option Failing → A) (es : List (Named Failing)) (q p : List ℕ) (x : Failing) → f (Some x) ≡ f (value_at es q)
    → f (if◌then◌else◌ (bytes_eq q p) (Some x) (value_at es p)) ≡ f (value_at es p)
same_by f es q p x h = grind (arith, cond_both, bytes_eq-Decides)

pub count_elsewhere : (es : List (Named Failing)) (q p : List ℕ) (i n : ℕ) (e : Named Failing) → IsEntryAt es q i e → p ≢ q
    → faults_in (set es i (counted e n)) p ≡ faults_in es p
count_elsewhere es q p i n e s ne =
    let other : bytes_eq q p ≡ false = false_from_ne_true (bytes_eq q p) (λ same. ne (sym ((bytes_eq-Decides q p).0 same))) in
    ap count_of (set_value es q p i n e s ∙ ap (λ b. if◌then◌else◌ b (Some (counted e n).value) (value_at es p)) other)

pub names_stay : (es : List (Named Failing)) (q p : List ℕ) (call i n : ℕ) (e : Named Failing) → IsEntryAt es q i e
    → fails_in (set es i (counted e n)) p call ≡ fails_in es p call
names_stay es q p call i n e s = ap (names_of call) (set_value es q p i n e s) ∙ same_by (names_of call) es q p (counted e n).value (ap (names_of call) (sym
    (found es q i e s)))

pub count_later : (es : List (Named Failing)) (q p : List ℕ) (i n : ℕ) (e : Named Failing) → IsEntryAt es q i e → e.value.faults ≤ n
    → faults_in es p ≤ faults_in (set es i (counted e n)) p
count_later es q p i n e s h = rw (set_value es q p i n e s) (
    cond_both (bytes_eq q p) (Some (counted e n).value) (value_at es p) (λ o. faults_in es p ≤ count_of o)
    (λ same. let k : faults_in es p ≡ e.value.faults = ap (λ z. faults_in es z) (sym ((bytes_eq-Decides q p).0 same))
    ∙ ap count_of (found es q i e s) in omega (arith, k, h))
    (λ other. omega arith))

-- this entry with these calls
abbrev pub recalled : Named Failing → Vec ℕ Global → Named Failing
recalled e calls = record { path = e.path; value = record { calls = calls; faults = e.value.faults } }

pub recalled_count : (es : List (Named Failing)) (q p : List ℕ) (i : ℕ) (calls : Vec ℕ Global) (e : Named Failing) → IsEntryAt es q i e
    → faults_in (set es i (recalled e calls)) p ≡ faults_in es p
recalled_count es q p i calls e s =
    ap count_of (put_over es q p i (recalled e calls).value e s) ∙ same_by count_of es q p (recalled e calls).value (ap count_of (sym (found es q i e s)))

-- the calls of a path with one more
more_cases : (es : List (Named Failing)) (q p : List ℕ) (call k : ℕ) (x : Failing)
    → names_of k (Some x) ≡ (names_of k (value_at es q) || nat_eq call k) → (b : Bool) → bytes_eq q p ≡ b
    → names_of k (if◌then◌else◌ b (Some x) (value_at es p)) ≡ (names_of k (value_at es p) || (b && nat_eq call k))
more_cases es q p call k x h b t = grind (arith, nat_eq, bytes_eq-Decides)

one_more : (xs ys : List ℕ) (call k : ℕ) → ys ≡ xs ++ call ∷ [] → list_any (λ c. nat_eq c k) ys ≡ (list_any (λ c. nat_eq c k) xs || nat_eq call k)
one_more xs ys call k h = grind (arith, nat_eq, list_any-append)

pub recalled_more : (es : List (Named Failing)) (q p : List ℕ) (i call k : ℕ) (calls : Vec ℕ Global) (e : Named Failing) → IsEntryAt es q i e
    → calls.items ≡ e.value.calls.items ++ call ∷ []
    → fails_in (set es i (recalled e calls)) p k ≡ (fails_in es p k || (bytes_eq q p && nat_eq call k))
recalled_more es q p i call k calls e s h =
    ap (names_of k) (put_over es q p i (recalled e calls).value e s)
    ∙ more_cases es q p call k (recalled e calls).value
    (one_more e.value.calls.items calls.items call k h ∙ ap (λ o. names_of k o || nat_eq call k) (sym (found es q i e s))) (bytes_eq q p) refl

pub recalled_same : (es : List (Named Failing)) (q p : List ℕ) (i k : ℕ) (calls : Vec ℕ Global) (e : Named Failing) → IsEntryAt es q i e
    → calls.items ≡ e.value.calls.items → fails_in (set es i (recalled e calls)) p k ≡ fails_in es p k
recalled_same es q p i k calls e s h =
    ap (names_of k) (put_over es q p i (recalled e calls).value e s)
    ∙ same_by (names_of k) es q p (recalled e calls).value (ap (λ (zs : List ℕ). list_any (λ c. nat_eq c k) zs) h ∙ ap (names_of k) (sym (found es q i e s)))

-- a path that had none yet, which now has a counter at 0 and no call
pub fresh_counter : (es lent new : List (Named Failing)) (q : List ℕ) (w : Named Failing) (r : Option ℕ) → r ≡ position (at_path q) lent → lent ≡ es → r ≡ None
    → string_bytes w.path ≡ q → w.value.faults ≡ 0 → w.value.calls.items ≡ [] → new ≡ es ++ w ∷ [] → SameFailing es new
fresh_counter es lent new q w r a b n path zero_faults no_calls h =
    let none : value_at es q ≡ None = position_gives_none es q (searched es lent q r None a b n) in record {
      fails = λ p k. ap (names_of k) (put_last es lent new q p w r a b n path h)
          ∙ same_by (names_of k) es q p w.value (ap (λ (xs : List ℕ). list_any (λ c. nat_eq c k) xs) no_calls ∙ ap (names_of k) (sym none));
      counts = λ p. ap count_of (put_last es lent new q p w r a b n path h) ∙ same_by count_of es q p w.value (zero_faults ∙ sym (ap count_of none));
    }

-- what holds anyway holds at an error
pub on_any_err : {X E P : Type 0} (r : Result X E) → P → OnErr r P
on_any_err r h = grind arith

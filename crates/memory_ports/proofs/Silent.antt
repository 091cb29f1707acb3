-- Entries whose calls are forgotten one after the other, and whose counts stay.
use Rattle.memory_ports.proofs.Common.{◌≡◌, ◌<◌, ℕ, ◌+◌, List, [], ◌∷◌, Bool, false, map, get_or, set, length, refl, ap, sym, ◌∙◌, arith, Option, if◌then◌else◌, Some, bytes_eq, string_bytes}
use Rattle.memory_ports.proofs.{Common.{nat_eq, get_or-set_same, get_or-set_other, Named, Failing, value_at, faults_in, fails_in, get_or_next}, FailingLemmas.{count_of, names_of}}

-- an entry by its path and its count
abbrev pub shape : Named Failing → List ℕ × ℕ
shape e = (string_bytes e.path, e.value.faults)

-- the count of the first with this path
abbrev count_among : List (List ℕ × ℕ) → List ℕ → ℕ
count_among [] p = 0
count_among (x ∷ xs) p = if◌then◌else◌ (bytes_eq x.0 p) x.1 (count_among xs p)

count_step : (b : Bool) (x : Failing) (v : Option Failing) (n : ℕ) → count_of v ≡ n → count_of (if◌then◌else◌ b (Some x) v) ≡ if◌then◌else◌ b x.faults n
count_step b x v n h = grind arith

count_is : (es : List (Named Failing)) (p : List ℕ) → faults_in es p ≡ count_among (map shape es) p
count_is [] p = refl
count_is (e ∷ es) p = count_step (bytes_eq (string_bytes e.path) p) e.value (value_at es p) (count_among (map shape es) p) (count_is es p)

pub same_counts : (es now : List (Named Failing)) (p : List ℕ) → map shape now ≡ map shape es → faults_in now p ≡ faults_in es p
same_counts es now p h = count_is now p ∙ ap (λ xs. count_among xs p) h ∙ sym (count_is es p)

-- the first this many name no call
abbrev pub AreSilent : List (Named Failing) → ℕ → Type 0
AreSilent es n = (k : ℕ) (d : Named Failing) → k < n → (get_or es k d).value.calls.items ≡ []

names_step : (b : Bool) (x : Failing) (v : Option Failing) (call : ℕ) → x.calls.items ≡ [] → names_of call v ≡ false → names_of call (if◌then◌else◌ b (Some x) v) ≡ false
names_step b x v call none h = grind (arith, nat_eq)

pub silent : (es : List (Named Failing)) → AreSilent es (length es) → (p : List ℕ) (call : ℕ) → fails_in es p call ≡ false
silent [] s p call = refl
silent (e ∷ es) s p call =
    let rest : AreSilent es (length es) = λ k d h. ap (λ (x : Named Failing). x.value.calls.items) (sym (get_or_next e es k d)) ∙ s (1 + k) d (omega arith) in
    names_step (bytes_eq (string_bytes e.path) p) e.value (value_at es p) call (s 0 e (omega arith)) (silent es rest p call)

-- the next one is silent too
pub silenced : (es : List (Named Failing)) (i : ℕ) (y : Named Failing) → AreSilent es i → i < length es → y.value.calls.items ≡ [] → AreSilent (set es i y) (i + 1)
silenced es i y s within none k d h = grind (arith, get_or-set_same, get_or-set_other, s k d, none)

-- The greatest of what is there.
use Rattle.change_times.proofs.Common.{◌≡◌, ℕ, zero, suc, ◌+◌, ◌≤◌, Option, None, IfSome, refl, sym, ap, ◌∙◌, subst, arith, add-one, greater, greatest_below}

pub greatest-zero : (f : ℕ → Option ℕ) → greatest_below f 0 ≡ None
unfolding greatest_below
greatest-zero f = refl

-- the greatest with one more
pub greatest-next : (f : ℕ → Option ℕ) (n : ℕ) (old new o : Option ℕ) → old ≡ greatest_below f n → new ≡ greater old o → f n ≡ o
    → new ≡ greatest_below f (n + 1)
unfolding greatest_below
greatest-next f n old new o e h here = rw add-one (h ∙ ap (λ x. greater x o) e ∙ ap (greater (greatest_below f n)) (sym here))

-- none is there where nothing is
pub greatest-none : (f : ℕ → Option ℕ) (n : ℕ) → ((i : ℕ) → f i ≡ None) → greatest_below f n ≡ None
unfolding greatest_below
greatest-none f zero none = refl
greatest-none f (suc n) none = ap (λ x. greater x (f n)) (greatest-none f n none) ∙ none n

pub greater-none : (o : Option ℕ) → greater o None ≡ o
greater-none o = grind arith

pub greater-assoc : (a b c : Option ℕ) → greater (greater a b) c ≡ greater a (greater b c)
greater-assoc a b c = grind arith

abbrev pub IsShort : Option ℕ → Type 0
IsShort o = IfSome o (λ seconds. seconds ≤ 86400)

pub short_greater : (a b : Option ℕ) → IsShort a → IsShort b → IsShort (greater a b)
short_greater a b h k = grind arith

-- what is short stays short
pub short_next : (old new o : Option ℕ) → IsShort old → IsShort o → new ≡ greater old o → IsShort new
short_next old new o h k e = subst IsShort (sym e) (short_greater old o h k)

-- Runs of rows of frequencies in their order: a list has one order.
use Rattle.connections.proofs.Common.{◌≡◌, ℕ, ◌+◌, ◌≤◌, Bool, false, List, [], ◌∷◌, get_or, All, refl, sym, ap, ap₂, ◌∙◌, arith, sum_by, if◌then◌else◌, AllPairs, Ordering, is_lt, nat_cmp}
use Rattle.connections.proofs.Common.{IsSorted, IsPermutation, cond_both, nat_tests, All-cons, All-head, All-tail, All-weaker, sum_by-cons, sum_by-le, AllPairs-nil, AllPairs-one, AllPairs-first}
use Rattle.connections.proofs.Common.{AllPairs-tail, Repeat, repeat_precedes, with_repeat, in_order}
use Rattle.std.specs.{Ordering.ordering_then, Cmp.IsStrictWeakOrder}
use Rattle.std.proofs.lemmas.List.{Kept.AllPairs-cons, Sorted.{sorted_far, sum_by-IsPermutation, All-permutation, IsPermutation-refl, IsPermutation-cons, IsPermutation-trans}}
use Rattle.std.proofs.lemmas.List.Sorted.{IsPermutation-append_left, IsPermutation-append_comm}

-- the order of the program is that of the definition
abbrev pub repeat_cmp : Repeat → Repeat → Ordering
repeat_cmp a b = ordering_then (nat_cmp a.departure b.departure) (nat_cmp a.line b.line)

same_order : (a b : Repeat) → is_lt (repeat_cmp a b) ≡ repeat_precedes a b
same_order a b = grind (arith, nat_tests)

order : IsStrictWeakOrder repeat_precedes
order = grind arith

same_departure : (x y : Repeat) → repeat_precedes x y ≡ false → repeat_precedes y x ≡ false → x.departure ≡ y.departure
same_departure x y h k = grind (arith, nat_tests)

same_line : (x y : Repeat) → repeat_precedes x y ≡ false → repeat_precedes y x ≡ false → x.line ≡ y.line
same_line x y h k = grind (arith, nat_tests)

total : (x y : Repeat) → repeat_precedes x y ≡ false → repeat_precedes y x ≡ false → x ≡ y
total x y h k = let d = same_departure x y h k in let l = same_line x y h k in λ i. record { departure = d i; line = l i }

abbrev NotAfter : Repeat → Repeat → Type 0
NotAfter a b = repeat_precedes b a ≡ false

not_after_itself : (y : Repeat) → NotAfter y y
not_after_itself y = grind (arith, nat_tests)

sorted : (rs : List Repeat) → IsSorted repeat_cmp rs → AllPairs NotAfter rs
sorted rs up i j d below within = sorted_far repeat_precedes order rs (λ k e low high. sym (same_order (get_or rs (k + 1) e) (get_or rs k e))
    ∙ up k e low high) i j d (omega arith) within

-- one for what repeat_precedes y
abbrev before : Repeat → Repeat → ℕ
before y z = if repeat_precedes z y then 1 else 0

before_none : (b : Bool) → b ≡ false → (if b then 1 else 0) ≤ 0
before_none b h = grind arith

before_zero : (b : Bool) (n : ℕ) → (if b then 1 else 0) + n ≡ 0 → b ≡ false
before_zero b n h = grind arith

-- nothing repeat_precedes the first of a list in order
first_is_least : (y : Repeat) (ys : List Repeat) → AllPairs NotAfter (y ∷ ys) → sum_by (before y) (y ∷ ys) ≡ 0
first_is_least y ys up =
    let all = All-cons (NotAfter y) y ys (not_after_itself y) (AllPairs-first NotAfter y ys up) in
    omega (arith, sum_by-le (before y) 0 (y ∷ ys) (All-weaker (NotAfter y) (λ z. before y z ≤ 0) (λ z. before_none (repeat_precedes z y)) (y ∷ ys) all))

-- two lists in order with the same elements are one
one_order : (xs ys : List Repeat) → AllPairs NotAfter xs → AllPairs NotAfter ys → ((g : Repeat → ℕ) → sum_by g xs ≡ sum_by g ys) → xs ≡ ys
one_order [] [] a b s = refl
one_order [] (y ∷ ys) a b s = absurd (omega (arith, s (λ z. 1), sum_by-cons (λ (z : Repeat). 1) y ys))
one_order (x ∷ xs) [] a b s = absurd (omega (arith, s (λ z. 1), sum_by-cons (λ (z : Repeat). 1) x xs))
one_order (x ∷ xs) (y ∷ ys) a b s =
    let xy = before_zero (repeat_precedes x y) (sum_by (before y) xs) (omega (arith, sum_by-cons (before y) x xs, s (before y), first_is_least y ys b)) in
    let yx = before_zero (repeat_precedes y x) (sum_by (before x) ys) (omega (arith, sum_by-cons (before x) y ys, s (before x), first_is_least x xs a)) in
    let e : x ≡ y = total x y xy yx in
    ap₂ (λ z zs. z ∷ zs) e
    (one_order xs ys (AllPairs-tail NotAfter x xs a) (AllPairs-tail NotAfter y ys b) (λ g. omega (arith, s g, sum_by-cons g x xs, sum_by-cons g y ys, ap g e)))

with_repeat-moves : (r : Repeat) (xs : List Repeat) → IsPermutation (r ∷ xs) (with_repeat r xs)
with_repeat-moves r [] = IsPermutation-refl (r ∷ [])
with_repeat-moves r (x ∷ xs) =
    cond_both (repeat_precedes x r) (x ∷ with_repeat r xs) (r ∷ x ∷ xs) (IsPermutation (r ∷ x ∷ xs))
    (λ sooner. IsPermutation-trans (r ∷ x ∷ xs) (x ∷ r ∷ xs) (x ∷ with_repeat r xs)
    (IsPermutation-append_left xs (r ∷ x ∷ []) (x ∷ r ∷ []) (IsPermutation-append_comm (r ∷ []) (x ∷ []))) (IsPermutation-cons x (r ∷ xs) (with_repeat r xs)
    (with_repeat-moves r xs)))
    (λ later. IsPermutation-refl (r ∷ x ∷ xs))

in_order-moves : (rs : List Repeat) → IsPermutation rs (in_order rs)
in_order-moves [] = IsPermutation-refl []
in_order-moves (r ∷ rs) = IsPermutation-trans (r ∷ rs) (r ∷ in_order rs) _ (IsPermutation-cons r rs (in_order rs) (in_order-moves rs)) (with_repeat-moves r
    (in_order rs))

-- in their order they add up to the same
pub in_order_sum : (g : Repeat → ℕ) (rs : List Repeat) → sum_by g (in_order rs) ≡ sum_by g rs
in_order_sum g rs = sum_by-IsPermutation g rs (in_order rs) (in_order-moves rs)

pub All-in_order : (P : Repeat → Type 0) (rs : List Repeat) → All P rs → All P (in_order rs)
All-in_order P rs = All-permutation P rs (in_order rs) (in_order-moves rs)

All-with_repeat : (P : Repeat → Type 0) (r : Repeat) (xs : List Repeat) → P r → All P xs → All P (with_repeat r xs)
All-with_repeat P r xs h all = All-permutation P (r ∷ xs) (with_repeat r xs) (with_repeat-moves r xs) (All-cons P r xs h all)

placed_in_order : (r : Repeat) (xs : List Repeat) → AllPairs NotAfter xs → AllPairs NotAfter (with_repeat r xs)
placed_in_order r [] up = AllPairs-one NotAfter r
placed_in_order r (x ∷ xs) up =
    let first = AllPairs-first NotAfter x xs up in
    cond_both (repeat_precedes x r) (x ∷ with_repeat r xs) (r ∷ x ∷ xs) (AllPairs NotAfter)
    (λ sooner. AllPairs-cons NotAfter x (with_repeat r xs) (All-with_repeat (NotAfter x) r xs (order.one_way x r sooner) first) (placed_in_order r xs
    (AllPairs-tail NotAfter x xs up)))
    (λ later. AllPairs-cons NotAfter r (x ∷ xs) (All-cons (NotAfter r) x xs later (All-weaker (NotAfter x) (NotAfter r)
    (λ y h. order.chain y x r h later) xs first)) up)

in_order_in_order : (rs : List Repeat) → AllPairs NotAfter (in_order rs)
in_order_in_order [] = AllPairs-nil NotAfter
in_order_in_order (r ∷ rs) = placed_in_order r (in_order rs) (in_order_in_order rs)

-- what a sort makes of a list is its order
pub in_order_is : (rs ys : List Repeat) → IsPermutation rs ys → IsSorted repeat_cmp ys → ys ≡ in_order rs
in_order_is rs ys moved up = grind (arith, one_order, sorted, in_order_in_order, sum_by-IsPermutation, in_order_sum)

-- two that differ
abbrev pub Differ : Repeat → Repeat → Type 0
Differ a b = a ≡ b → ⊥

pairs_placed : (r : Repeat) (xs : List Repeat) → All (Differ r) xs → AllPairs Differ xs → AllPairs Differ (with_repeat r xs)
pairs_placed r [] all p = AllPairs-one Differ r
pairs_placed r (x ∷ xs) all p =
    cond_both (repeat_precedes x r) (x ∷ with_repeat r xs) (r ∷ x ∷ xs) (AllPairs Differ)
    (λ sooner. AllPairs-cons Differ x (with_repeat r xs) (All-with_repeat (Differ x) r xs (λ e. All-head (Differ r) x xs all (sym e))
    (AllPairs-first Differ x xs p))
    (pairs_placed r xs (All-tail (Differ r) x xs all) (AllPairs-tail Differ x xs p)))
    (λ later. AllPairs-cons Differ r (x ∷ xs) all p)

pub pairs_in_order : (rs : List Repeat) → AllPairs Differ rs → AllPairs Differ (in_order rs)
pairs_in_order [] p = p
pairs_in_order (r ∷ rs) p = pairs_placed r (in_order rs) (All-in_order (Differ r) rs (AllPairs-first Differ r rs p)) (pairs_in_order rs (AllPairs-tail Differ r rs p))

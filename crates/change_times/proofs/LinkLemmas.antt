-- The links into places, built one place after the other.
use Rattle.change_times.proofs.Common.{◌≡◌, ℕ, zero, suc, ◌+◌, ◌-◌, ◌<◌, max, List, [], ◌∷◌, ◌++◌, length, take, get_or, set, Option, Some, None, refl, sym, ap, ◌∙◌, subst, arith, add-one}
use Rattle.change_times.proofs.Common.{append-nil, length-append, get_or-set_same, get_or-set_other, OnOk, Result, cases_eq, nat_tests, get_or_default, get_or_push, take_more, All-append}
use Rattle.change_times.proofs.Common.{All-get_or, All-nil, All-push, All-weaker, Way, Walk, Transfer, greater, link_from, ways_below, ComeBefore, walk_to, walks_of, most_to, link_between}
use Rattle.change_times.proofs.GreatestLemmas.{greater-none, greater-assoc}
use Rattle.std.proofs.Math.Seq.{set-append_seam}

pub ways-zero : (f : ℕ → Option ℕ) → ways_below f 0 ≡ []
unfolding ways_below
ways-zero f = refl

ways-suc : (f : ℕ → Option ℕ) (n : ℕ) → ways_below f (suc n) ≡ ways_below f n ++ link_from n (f n)
unfolding ways_below
ways-suc f n = refl

pub ways-next : (f : ℕ → Option ℕ) (n : ℕ) → ways_below f (n + 1) ≡ ways_below f n ++ link_from n (f n)
ways-next f n = rw add-one (ways-suc f n)

-- there is none where no seconds are
pub ways-none : (f : ℕ → Option ℕ) (n : ℕ) → ((i : ℕ) → f i ≡ None) → ways_below f n ≡ []
ways-none f zero none = ways-zero f
ways-none f (suc n) none = ways-suc f n ∙ ap (λ o. ways_below f n ++ link_from n o) (none n) ∙ append-nil (ways_below f n) ∙ ways-none f n none

-- the ways by the same seconds are the same
pub ways-same : (f g : ℕ → Option ℕ) (n : ℕ) → ((i : ℕ) → f i ≡ g i) → ways_below f n ≡ ways_below g n
ways-same f g zero same = ways-zero f ∙ sym (ways-zero g)
ways-same f g (suc n) same = grind (arith, ways-suc, ways-same f g n same)

one_before : (n : ℕ) (o : Option ℕ) → ComeBefore (link_from n o) (n + 1)
one_before n o = grind (arith, All-nil, All-push)

pub ways_before : (f : ℕ → Option ℕ) (n : ℕ) → ComeBefore (ways_below f n) n
ways_before f zero = subst (λ ws. ComeBefore ws 0) (sym (ways-zero f)) (All-nil (λ (way : Way). way.from.0 < 0))
ways_before f (suc n) =
    let e : n + 1 ≡ suc n = omega arith in
    subst (λ k. ComeBefore (ways_below f (suc n)) k) e
    (subst (λ ws. ComeBefore ws (n + 1)) (sym (ways-suc f n))
    (All-append (λ (way : Way). way.from.0 < n + 1) (ways_below f n) (link_from n (f n))
    (All-weaker (λ (way : Way). way.from.0 < n) (λ (way : Way). way.from.0 < n + 1) (λ way h. omega (arith, h)) (ways_below f n) (ways_before f n))
    (one_before n (f n))))

-- the walks to a place, with one more
pub most-push : (to : ℕ) (walks : List Walk) (walk : Walk) → most_to to (walks ++ walk ∷ []) ≡ greater (most_to to walks) (walk_to to walk)
most-push to [] walk = greater-none (walk_to to walk)
most-push to (w ∷ walks) walk = ap (greater (walk_to to w)) (most-push to walks walk) ∙ sym (greater-assoc (walk_to to w) (most_to to walks) (walk_to to walk))

pub most-next : (to : ℕ) (walks : List Walk) (i : ℕ) (d : Walk) → i < length walks
    → most_to to (take (i + 1) walks) ≡ greater (most_to to (take i walks)) (walk_to to (get_or walks i d))
most-next to walks i d h = ap (most_to to) (take_more walks i d h) ∙ most-push to (take i walks) (get_or walks i d)

abbrev way : ℕ → ℕ → Way
way from seconds = record { from = record { 0 = from }; seconds = seconds }

pub put-raised : (old base : List Way) (i from seconds most : ℕ) (o : Option ℕ) (last : Way) → ComeBefore base from → old ≡ base ++ link_from from o
    → 0 < length old → i ≡ length old - 1
    → last ≡ get_or old i last → last.from.0 ≡ from → most ≡ max last.seconds seconds
    → set old i (record { from = last.from; seconds = most }) ≡ base ++ link_from from (greater o (Some seconds))
put-raised old base i from seconds most o last before e some at is same m = grind (arith, append-nil, All-get_or, length-append, get_or_push, set-append_seam)

pub add-walk : (walks : List (List Walk)) (t : Transfer) (old new : List Walk) → t.from < length walks → (t.from ≡ t.to → ⊥) → old ≡ get_or walks t.from old
    → new ≡ old ++ record { to = t.to; seconds = t.seconds } ∷ [] → (from to : ℕ)
    → most_to to (walks_of (set walks t.from new) from) ≡ greater (most_to to (walks_of walks from)) (link_between from to (Some t))
add-walk walks t old new inside apart is more from to = grind (arith, cases_eq, get_or_default, set, get_or-set_same, most-push, nat_tests, get_or-set_other, greater-none)

pub by_ok : {T E : Type 0} (r : Result T E) (P Q : Type 0) → (P → Q) → OnOk r P → OnOk r Q
by_ok r P Q f h = grind arith

-- Lists joined one after the other.
use Rattle.connections.proofs.Common.{◌≡◌, ℕ, zero, suc, ◌+◌, ◌-◌, ◌<◌, ◌≤◌, Bool, true, List, [], ◌∷◌, ◌++◌, length, get_or, All, Contains, refl, sym, ap, subst, arith, inl, inr, ⊎_elim}
use Rattle.connections.proofs.Common.{add-one, append-nil, append_assoc, length-append, AllPairs, cases_lt, cases_eq, All-nil, All-cons, All-append, All-get_or, All-weaker, Contains-append_left}
use Rattle.connections.proofs.Common.{Contains-append_right, AllPairs-append, AllPairs-nil, AllPairs-one, list_below, list_below-zero, list_below-next, length-list_below, join_below, only_if}

pub join-zero : {A : Type 0} (f : ℕ → List A) → join_below f 0 ≡ []
unfolding join_below
join-zero f = refl

pub join-suc : {A : Type 0} (f : ℕ → List A) (n : ℕ) → join_below f (suc n) ≡ join_below f n ++ f n
unfolding join_below
join-suc f n = refl

pub join-next : {A : Type 0} (f : ℕ → List A) (n : ℕ) → join_below f (n + 1) ≡ join_below f n ++ f n
join-next f n = rw add-one (join-suc f n)

-- the start and the step of a loop that joins lists
pub ruleset join_steps = (join-zero, join-next, append-nil, append_assoc)

pub list_below-more : {A : Type 0} (f : ℕ → A) (n : ℕ) → list_below f (n + 1) ≡ list_below f n ++ f n ∷ []
list_below-more f n = sym (list_below-next f n (list_below f n) _ (f n) refl refl refl)

-- the same of a loop that adds one element at a time
pub ruleset list_steps = (list_below-zero, list_below-more, length-list_below, append-nil, append_assoc)

pub join-same : {A : Type 0} (f g : ℕ → List A) (n : ℕ) → ((i : ℕ) → i < n → f i ≡ g i) → join_below f n ≡ join_below g n
join-same f g zero h = cc (join-zero f, join-zero g)
join-same f g (suc n) h = cc (join-suc f n, join-suc g n, join-same f g n (λ i l. h i (omega arith)), h n (omega arith))

-- lists of which each is empty
pub join-none : {A : Type 0} (f : ℕ → List A) (n : ℕ) → ((i : ℕ) → i < n → f i ≡ []) → join_below f n ≡ []
join-none f zero h = join-zero f
join-none f (suc n) h = cc (join-suc f n, join-none f n (λ i l. h i (omega arith)), h n (omega arith), append-nil (join_below f n))

-- nothing is from an index on
pub join-rest : {A : Type 0} (f : ℕ → List A) (a j : ℕ) → ((i : ℕ) → a ≤ i → f i ≡ []) → join_below f (a + j) ≡ join_below f a
join-rest f a zero h = let e : a + zero ≡ a = omega arith in ap (join_below f) e
join-rest f a (suc j) h =
    let e : a + suc j ≡ a + j + 1 = omega arith in
    cc (join-next f (a + j), h (a + j) (omega arith), append-nil (join_below f (a + j)), join-rest f a j h)

-- the same lists before a place, then none, and from another place on one element each
pub join-on : {A : Type 0} (f g : ℕ → List A) (x : ℕ → A) (a c j : ℕ) → a ≤ c → ((i : ℕ) → i < a → g i ≡ f i) → ((i : ℕ) → a ≤ i → i < c → g i ≡ [])
    → ((i : ℕ) → c ≤ i → i < a + j → g i ≡ x i ∷ []) → join_below g (a + j) ≡ join_below f a ++ list_below (λ i. x (c + i)) (a + j - c)
join-on f g x a c zero le same none one = grind (arith, join-same, append-nil, list_below-zero)
join-on f g x a c (suc j) le same none one =
    let e : a + suc j ≡ a + j + 1 = omega arith in
    let before = join-on f g x a c j le same none (λ i l h. one i l (omega arith)) in
    let old = list_below (λ i. x (c + i)) (a + j - c) in
    ⊎_elim (λ (less : a + j < c).
    let no : a + suc j - c ≡ a + j - c = omega arith in
    cc (join-next g (a + j), none (a + j) (omega arith) less, append-nil (join_below f a ++ old)))
    (λ (from : c ≤ a + j).
    let more : a + suc j - c ≡ a + j - c + 1 = omega arith in
    let here : c + (a + j - c) ≡ a + j = omega arith in
    let all = list_below-next (λ i. x (c + i)) (a + j - c) old (old ++ x (a + j) ∷ []) (x (a + j)) refl refl (ap x (sym here)) in
    cc (join-next g (a + j), one (a + j) from (omega arith), append_assoc (join_below f a) old (x (a + j) ∷ [])))
    (cases_lt (a + j) c)

pub All-join : {A : Type 0} (P : A → Type 0) (f : ℕ → List A) (n : ℕ) → ((i : ℕ) → i < n → All P (f i)) → All P (join_below f n)
All-join P f zero h = subst (All P) (sym (join-zero f)) (All-nil P)
All-join P f (suc n) h = subst (All P) (sym (join-suc f n)) (All-append P (join_below f n) (f n) (All-join P f n (λ i l. h i (omega arith))) (h n (omega arith)))

-- each list has pairs of a relation, and so have any two, since what is in a list gives its place
pub AllPairs-join : {A : Type 0} (R : A → A → Type 0) (Of : ℕ → A → Type 0) (f : ℕ → List A) (n : ℕ) → ((i : ℕ) → i < n → All (Of i) (f i))
    → ((i : ℕ) → i < n → AllPairs R (f i)) → ((i j : ℕ) (x y : A) → i < j → j < n → Of i x → Of j y → R x y) → AllPairs R (join_below f n)
AllPairs-join R Of f zero are own across = subst (AllPairs R) (sym (join-zero f)) (AllPairs-nil R)
AllPairs-join {A} R Of f (suc n) are own across =
    let Before : A → Type 0 = λ x. (y : A) → Of n y → R x y in
    let before = All-join Before f n (λ i l. All-weaker (Of i) Before (λ x is y here. across i n x y l (omega arith) is here) (f i) (are i (omega arith))) in
    subst (AllPairs R) (sym (join-suc f n)) (AllPairs-append R (join_below f n) (f n)
    (AllPairs-join R Of f n (λ i l. are i (omega arith)) (λ i l. own i (omega arith)) (λ i j x y l h. across i j x y l (omega arith))) (own n (omega arith))
    (λ i j d l h. All-get_or Before (join_below f n) i d l before (get_or (f n) j d) (All-get_or (Of n) (f n) j d h (are n (omega arith)))))

-- what is in one of the lists
pub Contains-join : {A : Type 0} (f : ℕ → List A) (n i : ℕ) (x : A) → i < n → Contains (f i) x → Contains (join_below f n) x
Contains-join f zero i x l has = absurd (omega arith)
Contains-join {A} f (suc n) i x l has = subst (λ (xs : List A). Contains xs x) (sym (join-suc f n)) (elim (cases_eq i n) [
  | inl same ↦ Contains-append_right (join_below f n) (f n) x (subst (λ k. Contains (f k) x) same has)
  | inr other ↦ Contains-append_left (join_below f n) (f n) x (Contains-join f n i x (omega arith) has)
])

-- where none is empty, there are as many elements at least
pub join-many : {A : Type 0} (f : ℕ → List A) (n : ℕ) → ((i : ℕ) → i < n → 0 < length (f i)) → n ≤ length (join_below f n)
join-many f zero some = omega arith
join-many f (suc n) some = grind (arith, join-suc, length-append, join-many f n (λ i l. some i (omega arith)))

pub All-only_if : {A : Type 0} (P : A → Type 0) (b : Bool) (a : A) → (b ≡ true → P a) → All P (only_if b a)
All-only_if P b a h = grind (arith, All-cons, All-nil)

pub AllPairs-only_if : {A : Type 0} (R : A → A → Type 0) (b : Bool) (a : A) → AllPairs R (only_if b a)
AllPairs-only_if R b a = grind (arith, AllPairs-one, AllPairs-nil)

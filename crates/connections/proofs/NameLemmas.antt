-- The names of runs: no two runs have one name, and none begins or ends with a space.
use Rattle.connections.proofs.Common.{Contains, ◌≡◌, ◌≢◌, ℕ, zero, suc, ◌+◌, ◌-◌, ◌<◌, true, false, List, [], ◌∷◌, ◌++◌, length, take, drop, get_or, slice_index_or, Some, None, Option, ℤ, All}
use Rattle.connections.proofs.Common.{decimal, append_assoc, ◌^◌, refl, sym, ap, ap₂, ◌∙◌, subst, arith, below_more, length-append, list_all, is_ascii_digit, and_parts, and_from, nat_tests}
use Rattle.connections.proofs.Common.{get_or_append_left, get_or-append_right, get_or_default, get_or_push, take_at, drop_at, take_all, take_more, All-get_or, date_at, IsTrimmed, FeedParts}
use Rattle.connections.proofs.{Common.{AreIds, Repeat, Run, run_at, IsRunOfFeed, AreRunsOf, IsSmallRepeat, start_text, IsRunName, AreRunNames}, DateLemmas.date_text}
use Rattle.std.specs.{Str.Parse.AllDigits, Int.IsInRange}
use Rattle.std.proofs.lemmas.{Fmt.{decimal_is_IsNumeral, decimal_injective}, Str.Parse.digit_from_value}
use Rattle.delay_table.proofs.NumberedFacts.{one_index}

same_date : (d e : List ℕ) (a b : ℤ) → d ≡ e → date_at d ≡ Some a → date_at e ≡ Some b → a ≡ b
same_date d e a b same h k = let o : Some a ≡ Some b = sym h ∙ ap date_at same ∙ k in cc

same_rest : (x : ℕ) (xs ys : List ℕ) → x ∷ xs ≡ x ∷ ys → xs ≡ ys
same_rest x xs ys h = cc

range_digit : (c : ℕ) → IsInRange 48 57 c → is_ascii_digit c ≡ true
range_digit c h = grind (arith, nat_tests)

numeral_digits : (ds : List ℕ) → AllDigits 10 ds → list_all is_ascii_digit ds ≡ true
numeral_digits [] h = refl
numeral_digits (c ∷ ds) h = and_from (is_ascii_digit c) (list_all is_ascii_digit ds) (range_digit c (digit_from_value c h.0)) (numeral_digits ds h.1)

decimal_digits : (n : ℕ) → n < 2 ^ 64 → list_all is_ascii_digit (decimal n) ≡ true
decimal_digits n h = numeral_digits (decimal n) (decimal_is_IsNumeral n h).0.1

-- texts of digits that end in other marks
digits_end : (xs ys us vs : List ℕ) (a b : ℕ) → list_all is_ascii_digit xs ≡ true → list_all is_ascii_digit ys ≡ true → is_ascii_digit a ≡ false → is_ascii_digit b ≡ false
    → xs ++ a ∷ us ≡ ys ++ b ∷ vs → (xs ≡ ys) × (us ≡ vs)
digits_end [] [] us vs a b h k n m e = let r : us ≡ vs = cc in (refl, r)
digits_end [] (y ∷ ys) us vs a b h k n m e = let same : a ≡ y = cc in absurd (let t : is_ascii_digit a ≡ true = ap is_ascii_digit same ∙ (and_parts _ _ k).0 in cc)
digits_end (x ∷ xs) [] us vs a b h k n m e = let same : x ≡ b = cc in absurd (let t : is_ascii_digit b ≡ true = ap is_ascii_digit (sym same) ∙ (and_parts _ _ h).0 in cc)
digits_end (x ∷ xs) (y ∷ ys) us vs a b h k n m e =
    let first : x ≡ y = cc in
    let rest : xs ++ a ∷ us ≡ ys ++ b ∷ vs = cc in
    let r = digits_end xs ys us vs a b (and_parts _ _ h).1 (and_parts _ _ k).1 n m rest in
    (ap₂ (λ z zs. z ∷ zs) first r.0, r.1)

heads_differ : (xs ys : List ℕ) → 58 ∷ xs ≡ 64 ∷ ys → ⊥
heads_differ xs ys e = let first : ℕ = 58 in let second : ℕ = 64 in let x : first ≡ second = cc in omega (arith, x)

-- how a run starts follows from that and from what follows
same_start : (a b : Option Repeat) → IsSmallRepeat a → IsSmallRepeat b → (us vs : List ℕ) → start_text a ++ 58 ∷ us ≡ start_text b ++ 58 ∷ vs → (a ≡ b) × (us ≡ vs)
same_start None None h k us vs e = (refl, same_rest 58 us vs e)
same_start None (Some r) h k us vs e = absurd (heads_differ _ _ e)
same_start (Some r) None h k us vs e = absurd (heads_differ _ _ (sym e))
same_start (Some r) (Some q) h k us vs e =
    let texts : decimal r.departure ++ 46 ∷ (decimal r.line ++ 58 ∷ us) ≡ decimal q.departure ++ 46 ∷ (decimal q.line ++ 58 ∷ vs)
    = sym (append_assoc (decimal r.departure) (46 ∷ decimal r.line) (58 ∷ us)) ∙ same_rest 64 _ _ e ∙ append_assoc (decimal q.departure) (46 ∷ decimal q.line) (58 ∷ vs) in
    let x = digits_end (decimal r.departure) (decimal q.departure) _ _ 46 46 (decimal_digits r.departure h.0) (decimal_digits q.departure k.0) refl refl texts in
    let y = digits_end (decimal r.line) (decimal q.line) _ _ 58 58 (decimal_digits r.line h.1) (decimal_digits q.line k.1) refl refl x.1 in
    grind (arith, decimal_injective)

-- two runs of one name are one
pub one_run : (f : FeedParts) → AreIds f.trip_ids → (a b : Run) (name : List ℕ) → IsRunOfFeed f a → IsRunOfFeed f b → IsSmallRepeat a.repeat → IsSmallRepeat b.repeat
    → IsRunName f a name → IsRunName f b name
    → (a.origin.day.number ≡ b.origin.day.number) × (a.trip ≡ b.trip) × (a.repeat ≡ b.repeat)
one_run f ids a b name of_a of_b small small' h k =
    let x = date_text h.date a.origin.day.number h.reads in
    let y = date_text k.date b.origin.day.number k.reads in
    let id = slice_index_or f.trip_ids a.trip [] in
    let id' = slice_index_or f.trip_ids b.trip [] in
    let rest = start_text a.repeat ++ 58 ∷ id in
    let rest' = start_text b.repeat ++ 58 ∷ id' in
    let text : name ≡ h.date ++ rest = h.text ∙ append_assoc h.date (start_text a.repeat) (58 ∷ id) in
    let text' : name ≡ k.date ++ rest' = k.text ∙ append_assoc k.date (start_text b.repeat) (58 ∷ id') in
    let dates : h.date ≡ k.date = sym (take_at h.date rest 8 x.size) ∙ ap (take 8) (sym text ∙ text') ∙ take_at k.date rest' 8 y.size in
    let rests : rest ≡ rest' = sym (drop_at h.date rest 8 x.size) ∙ ap (drop 8) (sym text ∙ text') ∙ drop_at k.date rest' 8 y.size in
    let same = same_start a.repeat b.repeat small small' id id' rests in (
      same_date h.date k.date a.origin.day.number b.origin.day.number dates h.reads k.reads,
      one_index f.trip_ids ids.names.distinct a.trip b.trip of_a.trip of_b.trip same.1,
      same.0,
    )

name_at : (f : FeedParts) (rs : List Run) (n : ℕ) (names : List (List ℕ)) → AreRunNames f rs n names → (k : ℕ) (d : List ℕ) → k < n → IsRunName f (run_at rs k) (get_or names k d)
name_at f rs n names a k d h = subst (IsRunName f (run_at rs k)) (get_or_default names k [] d (omega (arith, a.size))) (a.each k h)

-- the name of one more run
pub run_pushes : (f : FeedParts) (rs : List Run) (r : ℕ) (old new : List (List ℕ)) (name : List ℕ) → AreRunNames f rs r old → IsRunName f (run_at rs r) name
    → new ≡ old ++ name ∷ [] → AreRunNames f rs (r + 1) new
run_pushes f rs r old new name a h last =
    subst (AreRunNames f rs (r + 1)) (sym last) (record {
      size = omega (arith, a.size, length-append old (name ∷ []));
      each = below_more (λ i. IsRunName f (run_at rs i) (get_or (old ++ name ∷ []) i [])) r
          (λ i less. subst (IsRunName f (run_at rs i)) (sym (get_or_append_left old (name ∷ []) [] i (omega (arith, a.size)))) (a.each i less))
          (subst (IsRunName f (run_at rs r)) (sym (get_or_push old name [] r a.size)) h);
    })

-- and it is new
pub run_new : (f : FeedParts) (rs : List Run) (r : ℕ) (names : List (List ℕ)) (name : List ℕ) → AreIds f.trip_ids → AreRunsOf f rs
    → ((k : ℕ) → k < r + 1 → IsSmallRepeat (run_at rs k).repeat) → r < length rs
    → AreRunNames f rs r names → IsRunName f (run_at rs r) name → ¬ Contains names name
run_new f rs r names name ids runs small inside a h there =
    let i = there.0 in
    let less : i < r = omega (arith, there.1, a.size) in
    let here = subst (IsRunName f (run_at rs i)) there.2 (name_at f rs r names a i name less) in
    let same = one_run f ids (run_at rs i) (run_at rs r) name (runs.each i (omega arith)) (runs.each r inside) (small i (omega arith)) (small r (omega arith)) here h in
    runs.apart i r less inside same.0 same.1 same.2

digit_from : (c : ℕ) → is_ascii_digit c ≡ true → c ≡ 32 → ⊥
digit_from c h e = grind (arith, nat_tests)

first_is : (d : List ℕ) → length d ≡ 8 → list_all is_ascii_digit d ≡ true → (more rest : List ℕ) → d ++ more ≡ 32 ∷ rest → ⊥
first_is [] l h more rest e = absurd (omega arith)
first_is (c ∷ d) l h more rest e = let same : c ≡ 32 = cc in digit_from c (and_parts (is_ascii_digit c) (list_all is_ascii_digit d) h).0 same

-- where a joined text ends with a space, its second part is empty or ends with one
last_is : (xs ys rest : List ℕ) → xs ++ ys ≡ rest ++ 32 ∷ [] → 0 < length ys → get_or ys (length ys - 1) 0 ≡ 32
last_is xs ys rest e some =
    let size = ap length e ∙ length-append rest (32 ∷ []) in
    let size' = length-append xs ys in
    let k = length xs + (length ys - 1) in
    let at : length rest ≡ k = omega (arith, size, size') in
    let minus : k - length xs ≡ length ys - 1 = omega arith in
    sym (ap (λ i. get_or ys i 0) minus) ∙ sym (get_or-append_right xs ys (length xs) k 0 refl (omega arith)) ∙ ap (λ zs. get_or zs k 0) e ∙ get_or_push rest 32 0 k at

split_last : (xs : List ℕ) (n : ℕ) → length xs ≡ n + 1 → get_or xs n 0 ≡ 32 → xs ≡ take n xs ++ 32 ∷ []
split_last xs n l e = sym (take_all (n + 1) xs (omega arith)) ∙ take_more xs n 0 (omega arith) ∙ ap (λ x. take n xs ++ x ∷ []) e

no_end : (xs : List ℕ) (n : ℕ) → length xs ≡ n → get_or (58 ∷ xs) n 0 ≡ 32 → ((rest : List ℕ) → xs ≢ rest ++ 32 ∷ []) → ⊥
no_end xs zero l e t = omega (arith, e)
no_end xs (suc n) l e t = t (take n xs) (split_last xs n (omega arith) e)

-- the name of a run neither begins nor ends with a space
pub name_trimmed : (f : FeedParts) (run : Run) (name : List ℕ) → AreIds f.trip_ids → run.trip < length f.trip_ids → IsRunName f run name → IsTrimmed name
name_trimmed f run name ids inside h =
    let id = slice_index_or f.trip_ids run.trip [] in
    let d = date_text h.date run.origin.day.number h.reads in
    let id_trimmed : IsTrimmed id = All-get_or IsTrimmed f.trip_ids run.trip [] inside ids.trimmed in
    let one : length (58 ∷ id) - 1 ≡ length id = omega arith in
    record {
      start = λ rest e. first_is h.date d.size d.digits (start_text run.repeat ++ 58 ∷ id) rest (sym (append_assoc h.date (start_text run.repeat) (58 ∷ id)) ∙ sym h.text ∙ e);
      end = λ rest e. no_end id (length id) refl (sym (ap (λ i. get_or (58 ∷ id) i 0) one) ∙ last_is (h.date ++ start_text run.repeat) (58 ∷ id) rest (sym h.text ∙ e) (omega arith)) id_trimmed.end;
    }

pub names_trimmed : (f : FeedParts) (rs : List Run) (names : List (List ℕ)) → AreIds f.trip_ids → AreRunsOf f rs → AreRunNames f rs (length rs) names → All IsTrimmed names
names_trimmed f rs names ids runs a k d h =
    let inside : k < length rs = omega (arith, a.size) in
    name_trimmed f (run_at rs k) (get_or names k d) ids (runs.each k inside).trip (name_at f rs (length rs) names a k d inside)

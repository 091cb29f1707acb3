-- The index of a route type among those that are named, and the greatest delay of a class.
use Rattle.delay_table.proofs.Common.{◌≡◌, slice_get, ℕ, ◌+◌, ◌-◌, ◌<◌, ◌≤◌, ◌==◌, List, length, get_or, slice_index, slice_index_or, Option, Some, None, option_map, sym, ap, ◌∙◌, arith}
use Rattle.delay_table.proofs.Common.{eq-or-lt_of_le, Contains, All, eq-eqb, ne_eqb, unwrap_or, cases_lt, get_or_default, slice_get_within, get_or_from_slice_get, Outcome, IsValidRow, absent_by}
use Rattle.delay_table.proofs.Common.{found_by, DelayLists, class_at, hour_class, route_class, type_class, type_index, option_or, AreDelays, IsClassOf}

-- not found among types that rise
pub absent_type : (types : List ℕ) (r i : ℕ) → ((k : ℕ) → k < i → get_or types k 0 < r) → ((k : ℕ) → i ≤ k → k < length types → r < get_or types k 0) → Contains types r → ⊥
absent_type types r i low high there = grind (arith, get_or_default, cases_lt)

pub never_falls : (types : List ℕ) → ((i j : ℕ) → i < j → j < length types → get_or types i 0 < get_or types j 0) → (i j : ℕ) → i ≤ j → j < length types → get_or types i 0 ≤ get_or types j 0
never_falls types h i j l inside = grind (arith, eq-or-lt_of_le)

-- the last delay of a row is the greatest
pub greatest_last : (r : List Outcome) (last : Outcome) → IsValidRow r → All (λ o. o.delay ≤ (slice_index_or r (length r - 1) last).delay) r
greatest_last r last v k d l =
    let e = get_or_default r (length r - 1) d last (omega arith) in
    grind (arith, slice_index_or, cases_lt)

no_index : (types : List ℕ) (route : ℕ) → ¬ Contains types route → type_index types route ≡ None
unfolding type_index
no_index types route h =
    absent_by (λ k. slice_index types k == route) (length types) (λ k l. ne_eqb (slice_index types k) route (λ e. h
    (k, l, get_or_default types k route 0 l ∙ e)))

own_index : (types : List ℕ) → ((i j : ℕ) → i < j → j < length types → get_or types i 0 < get_or types j 0) → (route j : ℕ) → slice_get types j ≡ Some route → type_index types route ≡ Some j
unfolding type_index
own_index types rising route j h =
    let here = get_or_from_slice_get types j route 0 h in
    let inside = slice_get_within types j route h in
    found_by (λ k. slice_index types k == route) (length types) j inside (eq-eqb (slice_index types j) route here)
    (λ k l. ne_eqb (slice_index types k) route (λ e. let less = rising k j l inside in omega (arith, less, e, here)))

-- the index of a route type, by its class
pub class-index : (types : List ℕ) → ((i j : ℕ) → i < j → j < length types → get_or types i 0 < get_or types j 0) → (route k : ℕ)
    → IsClassOf types route k → (k ≡ 0 → type_index types route ≡ None) × ((j : ℕ) → k ≡ j + 1 → type_index types route ≡ Some j)
class-index types rising route k h = grind (arith, no_index, own_index)

pub class_none : (d : DelayLists) → AreDelays d → (route k : ℕ) → IsClassOf d.types route k → k ≡ 0 → None ≡ type_class d (Some route)
class_none d s route k h e = sym (ap (option_map (λ n. n + 1)) ((class-index d.types s.rising route k h).0 e))

pub class_some : (d : DelayLists) → AreDelays d → (route k : ℕ) → IsClassOf d.types route k → (k ≡ 0 → ⊥) → Some k ≡ type_class d (Some route)
class_some d s route k h e =
    let n : k ≡ (k - 1) + 1 = grind (arith, e) in
    ap Some n ∙ sym (ap (option_map (λ n. n + 1)) ((class-index d.types s.rising route k h).1 (k - 1) n))

-- the class is that of the first of these that is there
pub class_is : (d : DelayLists) (class : Option ℕ) (route : Option (List ℕ)) (hour : ℕ) → {a b c e f : Option ℕ}
    → a ≡ route_class d route (Some hour) → b ≡ route_class d route None → c ≡ hour_class d class hour → e ≡ type_class d class → f ≡ hour_class d None hour
    → unwrap_or (option_or a (option_or b (option_or c (option_or e f)))) 0 ≡ class_at d class route hour
class_is d class route hour p q r s t = λ m. unwrap_or (option_or (p m) (option_or (q m) (option_or (r m) (option_or (s m) (t m))))) 0

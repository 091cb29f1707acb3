-- The route types of the groups of a route type alone, in the order of the groups: sorted, they are those that are named.
use Rattle.delay_table.proofs.Common.{◌≡◌, ◌≢◌, ℕ, zero, suc, ◌+◌, ◌<◌, ◌≤◌, Bool, ◌&&◌, eqb, List, [], ◌∷◌, ◌++◌, length, get_or, Option, Some, None, if◌then◌else◌, refl, sym, ap, ◌∙◌, subst}
use Rattle.delay_table.proofs.Common.{arith, ⊎_elim, All, AllPairs, Contains, length-append, append-nil, add-one, nat_cmp, is_none, IsPermutation, IsSorted, cases_Bool, IsDistinct, cases_lt}
use Rattle.delay_table.proofs.Common.{Decides-eqb, nat_tests, same_Some, All-push, Contains-append_left, Contains-push, all_pairs_push, All-permutation, Contains-permutation}
use Rattle.delay_table.proofs.Common.{IsNonDecreasingBy-from_sort, Outcome, GroupRows, end_of_types, Group, group_in, is_plain, listed, of_class, group_index, plain_type, plain_types, if_other}
use Rattle.delay_table.proofs.{Common.{route_types_below, others, type_rows, AreApart, AreGroupsRead, outcomes_at, read_outcomes}, GroupFacts.{apart-ne, group-here}, NamedTypes.AreNamed}
use Rattle.delay_table.proofs.NamedTypes.{HasNamed, are-route_types_below}
use Rattle.std.proofs.lemmas.{List.Kept.AllPairs-from_increasing, Map.{Keys.{IsDistinct-IsPermutation, IsStrictlyIncreasing-from_distinct}, Made.IsDistinct-from_AllPairs}}

plain-zero : (groups : List Group) → plain_types groups 0 ≡ []
unfolding plain_types
plain-zero groups = refl

pub plain-next : (groups : List Group) (n : ℕ) → plain_types groups (n + 1) ≡ plain_types groups n ++ listed (plain_type (group_in groups n))
unfolding plain_types
plain-next groups n = ap (plain_types groups) (add-one n)

pub plain-none : (groups : List Group) → [] ≡ plain_types groups 0
plain-none groups = sym (plain-zero groups)

-- a group of a route type alone
type-alone : (class : Option ℕ) (route : Option (List ℕ)) (hour : Option ℕ) (r : ℕ) → (if is_none route && is_none hour then class else None) ≡ Some r
    → ◌≡◌ {A = Group} (record { class = class; route = route; hour = hour }) (of_class (Some r))
type-alone class route hour r e = grind arith

plain-some : (g : Group) (r : ℕ) → plain_type g ≡ Some r → g ≡ of_class (Some r)
plain-some g r e = type-alone g.class g.route g.hour r e

-- a group is of `*` alone, of a route type alone, or another
kind-by : (class : Option ℕ) (route : Option (List ℕ)) (hour : Option ℕ) → (◌≡◌ {A = Group} (record { class = class; route = route; hour = hour }) (of_class None) → ⊥)
    → length (listed (if is_none route && is_none hour then class else None)) + length (if is_none route && is_none hour then [] else zero ∷ []) ≡ 1
kind-by class route hour h = grind arith

if-length : {A B : Type 0} (b : Bool) (x : A) (y : B) → length (if b then [] else x ∷ []) ≡ length (if b then [] else y ∷ [])
if-length b x y = grind (arith, cases_Bool b)

kind-one : (g : Group) → (g ≡ of_class None → ⊥) → length (listed (plain_type g)) + length (if_other g g) ≡ 1
kind-one g h = ap (λ n. length (listed (plain_type g)) + n) (if-length (is_plain g) g zero) ∙ kind-by g.class g.route g.hour h

kind-none : (g : Group) → g ≡ of_class None → length (listed (plain_type g)) + length (if_other g g) ≡ 0
kind-none g e = subst (λ (x : Group). length (listed (plain_type x)) + length (if_other x x) ≡ 0) (sym e) refl

-- what these route types are
record ArePlain (groups : List Group) (n : ℕ) (types : List ℕ) : Type 0 where
  own : All (λ r. (index : ℕ) × (index < n) × (group_in groups index ≡ of_class (Some r))) types
  all : (index r : ℕ) → index < n → group_in groups index ≡ of_class (Some r) → Contains types r
  apart : AllPairs (λ a b. a ≢ b) types

module _ (groups : List Group) (apart : AreApart groups) where
  skipped : (n : ℕ) (types : List ℕ) → ArePlain groups n types → plain_type (group_in groups n) ≡ None → ArePlain groups (suc n) types
  skipped n types s none = record {
    own = λ k d l. let w = s.own k d l in (w.0, omega (arith, w.1), w.2);
    all = λ index r l e.
        ⊎_elim (λ (before : index < n). s.all index r before e)
        (λ (end : n ≤ index).
        let same : index ≡ n = omega arith in
        let never : None ≡ Some r = sym none ∙ ap plain_type (sym (ap (group_in groups) same) ∙ e) in absurd (cc))
        (cases_lt index n);
    apart = s.apart;
  }

  added : (n : ℕ) (types : List ℕ) (r : ℕ) → n < length groups → ArePlain groups n types → plain_type (group_in groups n) ≡ Some r → ArePlain groups (suc n) (types ++ r ∷ [])
  added n types r inside s here =
      let is : group_in groups n ≡ of_class (Some r) = plain-some (group_in groups n) r here in
      record {
        own = All-push (λ r. (index : ℕ) × (index < suc n) × (group_in groups index ≡ of_class (Some r))) types r
            (λ k d l. let w = s.own k d l in (w.0, omega (arith, w.1), w.2)) (n, omega arith, is);
        all = λ index t l e.
            ⊎_elim (λ (before : index < n). Contains-append_left types (r ∷ []) t (s.all index t before e))
            (λ (end : n ≤ index).
            let same : index ≡ n = omega arith in
            let equal : Some r ≡ Some t = ap (λ (g : Group). g.class) (sym is ∙ sym (ap (group_in groups) same) ∙ e) in
            subst (Contains (types ++ r ∷ [])) (same_Some r t equal) (Contains-push types r))
            (cases_lt index n);
        apart = all_pairs_push (λ a b. a ≢ b) types r s.apart (λ k d l e.
            let w = s.own k d l in
            apart-ne groups apart w.0 n (omega (arith, w.1)) inside (λ z. omega (arith, z, w.1)) (w.2 ∙ ap (λ t. of_class (Some t)) e ∙ sym is));
      }

  step : (n : ℕ) (types : List ℕ) (o : Option ℕ) → n < length groups → ArePlain groups n types → plain_type (group_in groups n) ≡ o → ArePlain groups (suc n) (types ++ listed o)
  step n types None inside s here = subst (ArePlain groups (suc n)) (sym (append-nil types)) (skipped n types s here)
  step n types (Some r) inside s here = added n types r inside s here

  are-plain : (n : ℕ) → n ≤ length groups → ArePlain groups n (plain_types groups n)
  unfolding plain_types
  are-plain zero l = record { own = λ k d h. absurd (omega arith); all = λ index r h e. absurd (omega arith); apart = λ i j d less h. absurd (omega arith) }
  are-plain (suc n) l = step n (plain_types groups n) (plain_type (group_in groups n)) (omega arith) (are-plain n (omega arith)) refl

  -- how many there are, with the others
  abbrev both : ℕ → ℕ
  both n = length (plain_types groups n) + length (others groups n)

  both-suc : (n : ℕ) → both (suc n) ≡ both n + (length (listed (plain_type (group_in groups n))) + length (if_other (group_in groups n) (group_in groups n)))
  unfolding plain_types others
  both-suc n = grind (arith, length-append)

  both-zero : both 0 ≡ 0
  unfolding plain_types others
  both-zero = refl

  without : (n : ℕ) → ((k : ℕ) → k < n → group_in groups k ≡ of_class None → ⊥) → both n ≡ n
  without zero h = both-zero
  without (suc n) h = omega (arith, both-suc n, kind-one (group_in groups n) (h n (omega arith)), without n (λ k l. h k (omega arith)))

  with_default : (d : ℕ) → group_in groups d ≡ of_class None → (n : ℕ) → d < n → n ≤ length groups → both n + 1 ≡ n
  with_default d e zero less l = absurd (omega arith)
  with_default d e (suc n) less l = grind (arith, apart-ne, both-suc, kind-one, kind-none, without, cases_lt, with_default d e n)

-- a group that has outcomes is there
somewhere : (rows : List GroupRows) (o : Option ℕ) → 0 < length (outcomes_at rows o) → (k : ℕ) × (o ≡ Some k)
somewhere rows o h = grind arith

pub is-there : (groups : List Group) (rows : List GroupRows) (group : Group) → 0 < length (read_outcomes groups rows group) → (k : ℕ) × (k < length groups) × (group_in groups k ≡ group)
unfolding read_outcomes
is-there groups rows group h =
    let w = somewhere rows (group_index group groups) h in
    let here = group-here group groups w.0 w.1 in (w.0, here.0, here.1)

module _ (groups : List Group) (rows : List GroupRows) (is : AreGroupsRead groups rows) (sorted : List ℕ)
    (moved : IsPermutation (plain_types groups (length groups)) sorted) (up : IsSorted nat_cmp sorted) where
  abbrev own : Group → List Outcome
  own = read_outcomes groups rows

  abbrev plain : List ℕ
  plain = plain_types groups (length groups)

  are : ArePlain groups (length groups) plain
  are = are-plain groups is.apart (length groups) (omega arith)

  distinct : IsDistinct eqb sorted
  distinct = IsDistinct-IsPermutation eqb (λ a b. grind (arith, nat_tests)) plain sorted moved (IsDistinct-from_AllPairs Decides-eqb plain are.apart)

  route_types_below-are-sorted : AreNamed own end_of_types sorted
  route_types_below-are-sorted = record {
    below = All-permutation (λ r. r < end_of_types) plain sorted moved (λ k d l.
        let p = are.own k d l in is.types p.0 (get_or plain k d) p.1 (ap (λ (g : Group). g.class) p.2));
    rising = AllPairs-from_increasing sorted (IsStrictlyIncreasing-from_distinct sorted (IsNonDecreasingBy-from_sort (λ x. x) sorted up) distinct);
    some = All-permutation (λ r. 0 < length (type_rows own r)) plain sorted moved (λ k d l.
        let p = are.own k d l in subst (λ (g : Group). 0 < length (own g)) p.2 (is.some p.0 p.1));
  }

  route_types_below-in-sorted : HasNamed own end_of_types sorted
  route_types_below-in-sorted = λ r l here.
      let w = is-there groups rows (of_class (Some r)) here in
      Contains-permutation plain sorted r moved (are.all w.0 r w.1 w.2)

  pub sorted-are-route_types_below : sorted ≡ route_types_below own end_of_types
  sorted-are-route_types_below = are-route_types_below own end_of_types sorted route_types_below-are-sorted route_types_below-in-sorted

-- `*`, the route types that are named and the other groups are all of them
pub groups-are : (groups : List Group) (rows : List GroupRows) → AreGroupsRead groups rows → length (route_types_below (read_outcomes groups rows) end_of_types) ≡ length (plain_types groups (length groups))
    → 0 < length (read_outcomes groups rows (of_class None)) → length (route_types_below (read_outcomes groups rows) end_of_types) + 1 + length (others groups (length groups)) ≡ length groups
groups-are groups rows is size some = grind (arith, is-there, with_default)

-- Groups by the numbers of their routes.
use Rattle.std.proofs.lemmas.Grind.{common_steps}
use Rattle.delay_table.proofs.Common.{◌≡◌, ℕ, suc, ◌<◌, ◌≤◌, true, false, List, [], ◌∷◌, ◌++◌, length, map, slice_index_or, Option, Some, None, IfSome, option_map, is_some, refl, sym, ap, ap₂}
use Rattle.delay_table.proofs.Common.{◌∙◌, subst, arith, below_more, position, eqb-true, eq-eqb, list_any, cases_order, and_from, and_parts, false_from_ne_true, same_Some, get_or_default}
use Rattle.delay_table.proofs.Common.{get_or_append_left, get_or_push, get_or-map, length-map, length_push, map-append, Any-from_list_any, list_any_at, position-Some, AreDistinct, number_in}
use Rattle.delay_table.proofs.Common.{number-here, NumberedGroup, Group, of_class, group_in, group_index, numbered_route, routes_of, with_route, no_group, named_group, same_numbered, AreNumbers}
use Rattle.delay_table.proofs.{Common.{IsNumber, IsNumbering}, RouteFacts.{routes-distinct, routes-next, with_route-cases, with_route-distinct}, GroupFacts.{none-index, nowhere, index-first}}
use Rattle.delay_table.proofs.GroupFacts.{same_if-equal, same_if-self}

pub numbered-equal : (a b : NumberedGroup) → same_numbered a b ≡ true → a ≡ b
numbered-equal a b h = grind (arith, and_parts, same_if-equal, eqb-true)

pub numbered-true : (a b : NumberedGroup) → a ≡ b → same_numbered a b ≡ true
numbered-true a b e = grind (arith, same_if-self, eq-eqb, and_from)

-- a name of a list whose names differ is at one index
pub one_index : (names : List (List ℕ)) → AreDistinct names → (m n : ℕ) → m < length names → n < length names → slice_index_or names m [] ≡ slice_index_or names n [] → m ≡ n
one_index names distinct m n a b e = grind (arith, cases_order)

one_route : (routes : List (List ℕ)) → AreDistinct routes → (a b : Option ℕ) → IfSome a (λ n. n < length routes) → IfSome b (λ n. n < length routes)
    → option_map (λ k. slice_index_or routes k []) a ≡ option_map (λ k. slice_index_or routes k []) b → a ≡ b
one_route routes distinct a b h g e = grind (arith, one_index, same_Some)

module _ (routes : List (List ℕ)) (keys : List NumberedGroup) (distinct : AreDistinct routes) (numbers : AreNumbers routes keys) where
  abbrev key_at : ℕ → NumberedGroup
  key_at k = slice_index_or keys k no_group

  abbrev groups : List Group
  groups = map (named_group routes) keys

  size : length groups ≡ length keys
  size = length-map keys (named_group routes)

  at : (k : ℕ) → k < length keys → group_in groups k ≡ named_group routes (key_at k)
  at k l = get_or-map (named_group routes) keys k no_group (of_class None) l

  module _ (key : NumberedGroup) (group : Group) (number : IfSome key.route (λ n. n < length routes)) (is : named_group routes key ≡ group) where
    -- a key that represents the group is this one
    back : (k : ℕ) → k < length keys → group_in groups k ≡ group → key ≡ key_at k
    back k l e = grind (arith, at, one_route)

    forth : (k : ℕ) → k < length keys → key ≡ key_at k → group_in groups k ≡ group
    forth k l e = at k l ∙ ap (named_group routes) (sym e) ∙ is

    -- where it is
    pub found-index : (o : Option ℕ) → o ≡ position (same_numbered key) keys → is_some o ≡ list_any (same_numbered key) keys → o ≡ group_index group groups
    found-index None e f = sym (none-index group groups (λ k l g.
        let inside : k < length keys = omega (arith, size) in
        let t = list_any_at (same_numbered key) keys k no_group inside (numbered-true key (key_at k) (back k inside g)) in
        let z : false ≡ true = f ∙ t in cc))
    found-index (Some i) e f =
        let w = position-Some (same_numbered key) keys i no_group (sym e) in
        let here = forth i w.0 (numbered-equal key (key_at i) w.1) in
        sym (index-first group groups i (omega (arith, size)) here (λ k less g.
        let inside : k < length keys = omega arith in
        let t = numbered-true key (key_at k) (back k inside g) in
        let z = w.2 k less in cc))

    -- a group that is new has a new key
    pub new-key : group_index group groups ≡ None → list_any (same_numbered key) keys ≡ false
    new-key h = false_from_ne_true (list_any (same_numbered key) keys) (λ t.
        let w = Any-from_list_any (same_numbered key) keys t in
        let inside : w.0 < length keys = w.2 in
        let e : key_at w.0 ≡ w.1 = get_or_default keys w.0 no_group w.1 inside ∙ w.3 in
        nowhere group groups h w.0 (omega (arith, size)) (forth w.0 inside (numbered-equal key w.1 w.4 ∙ sym e)))

    -- and goes last
    pub keys-last : (keys' : List NumberedGroup) → keys' ≡ keys ++ key ∷ [] → map (named_group routes) keys' ≡ groups ++ group ∷ []
    keys-last keys' e = ap (map (named_group routes)) e ∙ map-append (named_group routes) keys (key ∷ []) ∙ ap (λ (g : Group). groups ++ g ∷ []) is

    pub numbers-last : (keys' : List NumberedGroup) → keys' ≡ keys ++ key ∷ [] → AreNumbers routes keys'
    numbers-last keys' e = grind (arith, below_more, get_or_append_left, get_or_push, length_push)

-- the groups stay when a route is added
same_route : (routes : List (List ℕ)) (id : List ℕ) (a : Option ℕ) → IfSome a (λ n. n < length routes)
    → numbered_route (routes ++ id ∷ []) a ≡ numbered_route routes a
same_route routes id a h = grind (arith, get_or_append_left)

same_names : (routes : List (List ℕ)) (id : List ℕ) (keys : List NumberedGroup) → AreNumbers routes keys → map (named_group (routes ++ id ∷ [])) keys ≡ map (named_group routes) keys
same_names routes id [] numbers = refl
same_names routes id (x ∷ xs) numbers =
    let route = same_route routes id x.route (numbers 0 (omega arith)) in
    let head : named_group (routes ++ id ∷ []) x ≡ named_group routes x = λ i. record { class = x.class; route = route i; hour = x.hour } in
    ap₂ (λ a b. a ∷ b) head (same_names routes id xs (λ k l. numbers (suc k) (omega arith)))

wider : (a : Option ℕ) (m n : ℕ) → m ≤ n → IfSome a (λ k. k < m) → IfSome a (λ k. k < n)
wider a m n l h = grind arith

record StaysSo (keys : List NumberedGroup) (groups : List Group) (routes : List (List ℕ)) : Type 0 where
  numbers : AreNumbers routes keys
  are : map (named_group routes) keys ≡ groups

stays : (routes : List (List ℕ)) (keys : List NumberedGroup) (groups : List Group) → IsNumbering routes keys groups → (route : Option (List ℕ)) → StaysSo keys groups (with_route routes route)
stays routes keys groups h route = grind (arith, with_route-cases, wider, length_push, same_names)

-- where a group is, by the number of its route
pub index-is : (routes : List (List ℕ)) (keys : List NumberedGroup) (distinct : AreDistinct routes) (numbers : AreNumbers routes keys) (all : List Group)
    (class number hour : Option ℕ) (route : Option (List ℕ)) → map (named_group routes) keys ≡ all → IfSome number (λ n. n < length routes)
    → option_map (λ k. slice_index_or routes k []) number ≡ route → (o : Option ℕ)
    → o ≡ position (same_numbered (record { class = class; route = number; hour = hour })) keys
    → is_some o ≡ list_any (same_numbered (record { class = class; route = number; hour = hour })) keys → o ≡ group_index (record { class = class; route = route; hour = hour }) all
index-is routes keys distinct numbers all class number hour route view inside is o here found =
    let key : NumberedGroup = record { class = class; route = number; hour = hour } in
    let group : Group = record { class = class; route = route; hour = hour } in
    let named : named_group routes key ≡ group = λ i. record { class = class; route = is i; hour = hour } in
    found-index routes keys distinct numbers key group inside named o here found ∙ ap (group_index group) view

-- the number of a route is that of its id
pub number-is : (routes : List (List ℕ)) (id : List ℕ) (n : ℕ) → number_in id routes ≡ Some n → IsNumber routes (Some n) (Some id)
number-is routes id n h = let w = number-here id routes n h in record { inside = w.0; is = ap Some w.1 }

module _ (routes : List (List ℕ)) (keys : List NumberedGroup) (distinct : AreDistinct routes) (numbers : AreNumbers routes keys) (all : List Group)
    (class number hour : Option ℕ) (route : Option (List ℕ)) (view : map (named_group routes) keys ≡ all) (is : IsNumber routes number route) where
  abbrev own_key : NumberedGroup
  own_key = record { class = class; route = number; hour = hour }

  abbrev own_group : Group
  own_group = record { class = class; route = route; hour = hour }

  own-named : named_group routes own_key ≡ own_group
  own-named = λ i. record { class = class; route = is.is i; hour = hour }

  -- the key of a group that is new is new
  pub key-is-new : group_index own_group all ≡ None → list_any (same_numbered own_key) keys ≡ false
  key-is-new h = new-key routes keys distinct numbers own_key own_group is.inside own-named (ap (group_index own_group) view ∙ h)

  -- and it goes last
  pub groups-last : (more : List NumberedGroup) → more ≡ keys ++ own_key ∷ [] → map (named_group routes) more ≡ all ++ own_group ∷ []
  groups-last more e = keys-last routes keys distinct numbers own_key own_group is.inside own-named more e ∙ ap (λ gs. gs ++ own_group ∷ []) view

  pub numbers-more : (more : List NumberedGroup) → more ≡ keys ++ own_key ∷ [] → AreNumbers routes more
  numbers-more more e = numbers-last routes keys distinct numbers own_key own_group is.inside own-named more e

-- no groups
numbering-nothing : IsNumbering [] [] []
unfolding routes_of
numbering-nothing = record { named = refl; numbers = λ k l. absurd (omega arith); are = refl }

pub numbering-none : (routes : List (List ℕ)) (keys : List NumberedGroup) → routes ≡ [] → keys ≡ [] → IsNumbering routes keys []
numbering-none routes keys e f = subst (λ (xs : List (List ℕ)). IsNumbering xs keys []) (sym e) (subst (λ (ks : List NumberedGroup). IsNumbering [] ks []) (sym f) numbering-nothing)

-- one more group, which is new
module _ (routes : List (List ℕ)) (keys : List NumberedGroup) (groups : List Group) (were : IsNumbering routes keys groups) (group : Group) (number : Option ℕ)
    (new : List (List ℕ)) (named : new ≡ with_route routes group.route) (is : IsNumber new number group.route) where
  abbrev next : NumberedGroup
  next = record { class = group.class; route = number; hour = group.hour }

  so : StaysSo keys groups new
  so = subst (StaysSo keys groups) (sym named) (stays routes keys groups were group.route)

  differ : AreDistinct new
  differ = subst AreDistinct (sym (named ∙ ap (λ xs. with_route xs group.route) were.named)) (with_route-distinct (routes_of groups) group.route (routes-distinct groups))

  pub numbering-new : group_index group groups ≡ None → list_any (same_numbered next) keys ≡ false
  numbering-new = key-is-new new keys differ so.numbers groups group.class number group.hour group.route so.are is

  pub numbering-next : (more : List NumberedGroup) → more ≡ keys ++ next ∷ [] → IsNumbering new more (groups ++ group ∷ [])
  numbering-next more e = grind (arith, common_steps, routes-next, numbers-more, differ, so, groups-last)

-- The routes that groups name.
use Rattle.delay_table.proofs.Common.{◌≡◌, ℕ, zero, suc, ◌<◌, Bool, true, false, List, [], ◌∷◌, ◌++◌, length, Option, Some, None, IfSome, IfNone, slice_get, is_some, if◌then◌else◌, Contains, sym}
use Rattle.delay_table.proofs.Common.{ap, ◌∙◌, subst, arith, fold, get_or_default, Contains-push, Contains-append_left, Adds, AreDistinct, number_in, got, number-contained, number-here}
use Rattle.delay_table.proofs.{Common.{DelayLists, class_at, class_for, hour_of, Group, group_in, group_index, numbered_route, routes_of, with_route}, GroupFacts.none-index}
use Rattle.std.proofs.lemmas.List.Sums.{fold-append}
use Rattle.plan_model.proofs.Texts.{AreDistinct-push}

-- whether a route has a index
contained : (id : List ℕ) (routes : List (List ℕ)) (o : Option ℕ) → number_in id routes ≡ o → (is_some o ≡ true → Contains routes id) × (is_some o ≡ false → ¬ Contains routes id)
contained id routes None e = (λ t. absurd (cc), λ f c. number-contained id routes c e)
contained id routes (Some k) e = let w = number-here id routes k e in (λ t. (k, w.0, sym (get_or_default routes k [] id w.0) ∙ w.1), λ f. absurd (cc))

either : (P : List (List ℕ) → Type 0) (routes : List (List ℕ)) (id : List ℕ) (b : Bool) → is_some (number_in id routes) ≡ b → (Contains routes id → P routes)
    → ((Contains routes id → ⊥) → P (routes ++ id ∷ [])) → P (if b then routes else routes ++ id ∷ [])
either P routes id b e old new = grind (arith, contained)

-- the two cases of a route that is given: it is there, or it goes last
pub with_route-cases : (P : List (List ℕ) → Type 0) (routes : List (List ℕ)) (id : List ℕ) → (Contains routes id → P routes)
    → ((Contains routes id → ⊥) → P (routes ++ id ∷ [])) → P (with_route routes (Some id))
with_route-cases P routes id = either P routes id (is_some (number_in id routes)) (λ i. is_some (number_in id routes))

-- what `add` of an index does
pub with_route-adds : (old new : List (List ℕ)) (id : List ℕ) (added : Bool) → Adds old new id added → new ≡ with_route old (Some id)
with_route-adds old new id true a = with_route-cases (λ xs. new ≡ xs) old id (λ c. absurd (a.1 c)) (λ n. a.0)
with_route-adds old new id false a = with_route-cases (λ xs. new ≡ xs) old id (λ c. a.0) (λ n. absurd (n a.1))

-- a route stays
kept : (routes : List (List ℕ)) (route : Option (List ℕ)) (x : List ℕ) → Contains routes x → Contains (with_route routes route) x
kept routes None x h = h
kept routes (Some id) x h = with_route-cases (λ xs. Contains xs x) routes id (λ c. h) (λ n. Contains-append_left routes (id ∷ []) x h)

-- and one that is given is there
own : (routes : List (List ℕ)) (id : List ℕ) → Contains (with_route routes (Some id)) id
own routes id = with_route-cases (λ xs. Contains xs id) routes id (λ c. c) (λ n. Contains-push routes id)

pub with_route-distinct : (routes : List (List ℕ)) (route : Option (List ℕ)) → AreDistinct routes → AreDistinct (with_route routes route)
with_route-distinct routes None h = h
with_route-distinct routes (Some id) h = with_route-cases AreDistinct routes id (λ c. h) (AreDistinct-push routes id h)

abbrev step : List (List ℕ) → Group → List (List ℕ)
step routes group = with_route routes group.route

all-kept : (routes : List (List ℕ)) (groups : List Group) (x : List ℕ) → Contains routes x → Contains (fold step routes groups) x
all-kept routes [] x h = h
all-kept routes (g ∷ gs) x h = all-kept (step routes g) gs x (kept routes g.route x h)

named : (routes : List (List ℕ)) (groups : List Group) (k : ℕ) (id : List ℕ) → k < length groups → (group_in groups k).route ≡ Some id → Contains (fold step routes groups) id
named routes [] k id l e = absurd (omega arith)
named routes (g ∷ gs) zero id l e = all-kept (step routes g) gs id (subst (λ (o : Option (List ℕ)). Contains (with_route routes o) id) (sym e) (own routes id))
named routes (g ∷ gs) (suc k) id l e = named (step routes g) gs k id (omega arith) e

all-distinct : (routes : List (List ℕ)) (groups : List Group) → AreDistinct routes → AreDistinct (fold step routes groups)
all-distinct routes [] h = h
all-distinct routes (g ∷ gs) h = all-distinct (step routes g) gs (with_route-distinct routes g.route h)

-- no route comes twice
pub routes-distinct : (groups : List Group) → AreDistinct (routes_of groups)
unfolding routes_of
routes-distinct groups = all-distinct [] groups (λ i j l inside. absurd (omega arith))

-- one more group
pub routes-next : (groups : List Group) (group : Group) → routes_of (groups ++ group ∷ []) ≡ with_route (routes_of groups) group.route
unfolding routes_of
routes-next groups group = fold-append step [] groups (group ∷ [])

-- no group has a route that is not among them
pub unnamed-index : (groups : List Group) (id : List ℕ) → (Contains (routes_of groups) id → ⊥) → (class hour : Option ℕ)
    → group_index (record { class = class; route = Some id; hour = hour }) groups ≡ None
unfolding routes_of
unnamed-index groups id absent class hour =
    none-index (record { class = class; route = Some id; hour = hour }) groups (λ k l e. absent (named [] groups k id l (ap (λ (g : Group). g.route) e)))

-- so a connection of such a route has the class of one without a route
pub unnamed-class : (d : DelayLists) (id : List ℕ) → (Contains (routes_of d.others) id → ⊥) → (class : Option ℕ) (arr : ℕ) → class_for d class (Some id) arr ≡ class_for d class None arr
unfolding class_for
unnamed-class d id absent class arr = grind (arith, unnamed-index)

pub unnumbered-class : (d : DelayLists) (number : Option ℕ) (class : Option ℕ) (arr found : ℕ) → found ≡ class_for d class (numbered_route (routes_of d.others) number) arr
    → IfNone number ((id : List ℕ) → (Contains (routes_of d.others) id → ⊥) → found ≡ class_for d class (Some id) arr)
unnumbered-class d number class arr found e = grind (arith, unnamed-class)

-- the class of a route by its number
pub numbered-class : (d : DelayLists) (id : List ℕ) (number : Option ℕ) (class : Option ℕ) (arr found : ℕ) → IfSome number (λ n. slice_get (routes_of d.others) n ≡ Some id)
    → IfNone number (¬ Contains (routes_of d.others) id) → found ≡ class_for d class (numbered_route (routes_of d.others) number) arr → found ≡ class_for d class (Some id) arr
numbered-class d id number class arr found here absent e = grind (arith, unnamed-class, got)

-- the hour of the arrival is all of it that counts
pub same-hour : (d : DelayLists) (class : Option ℕ) (route : Option (List ℕ)) (a b : ℕ) → hour_of a ≡ hour_of b → class_for d class route a ≡ class_for d class route b
unfolding class_for
same-hour d class route a b e = ap (class_at d class route) e

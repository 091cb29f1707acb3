-- The groups of the rows that are read, one row more at a time.
use Rattle.delay_table.proofs.Common.{◌≡◌, ℕ, ◌+◌, ◌<◌, List, [], ◌∷◌, ◌++◌, length, slice_index, Option, Some, None, IfSome, Result, if◌then◌else◌, refl, sym, ap, ◌∙◌, subst, arith, add-one}
use Rattle.delay_table.proofs.Common.{append-nil, below_more, OnOk, cases_eq, get_or_append_left, get_or_push, get_or-map, length-map, length_push, map-append, Outcome, GroupRows, DelayFault}
use Rattle.delay_table.proofs.Common.{BadField, Group, same_group, of_class, group_in, group_index, Line, of_group, group_outcomes, fault_of, fault_after, line_fault, begins, if_begins, firsts}
use Rattle.delay_table.proofs.{Common.{group_of, groups_at, group_rows_at, outcomes_at, read_outcomes, AreApart, IsPushed, AddsRow, IsReadTo, field, RouteId, end_of_types}, LineFacts.IsFormed}
use Rattle.delay_table.proofs.{LineFacts.formed_at, GroupFacts.{same-true, same-false, group-here, nowhere, apart-ne, index-at, push-none}}
use Rattle.delay_table.specs.Delays.{line_at}

outcomes-zero : (t : List (List (List ℕ))) (group : Group) → group_outcomes t 0 group ≡ []
unfolding group_outcomes
outcomes-zero t group = refl

pub outcomes-next : (t : List (List (List ℕ))) (n : ℕ) (group : Group) → group_outcomes t (n + 1) group ≡ group_outcomes t n group ++ of_group group (line_at t n)
unfolding group_outcomes
outcomes-next t n group = rw add-one

firsts-zero : (t : List (List (List ℕ))) → firsts t 0 ≡ []
unfolding firsts
firsts-zero t = refl

firsts-next : (t : List (List (List ℕ))) (n : ℕ) → firsts t (n + 1) ≡ firsts t n ++ begins (group_outcomes t n) (line_at t n) n
unfolding firsts
firsts-next t n = rw add-one

pub length-groups : (t : List (List (List ℕ))) (rows : List ℕ) → length (groups_at t rows) ≡ length rows
unfolding groups_at
length-groups t rows = length-map rows (λ i. group_of (line_at t i))

groups-push : (t : List (List (List ℕ))) (rows : List ℕ) (i : ℕ) → groups_at t (rows ++ i ∷ []) ≡ groups_at t rows ++ group_of (line_at t i) ∷ []
unfolding groups_at
groups-push t rows i = map-append (λ i. group_of (line_at t i)) rows (i ∷ [])

groups-nil : (t : List (List (List ℕ))) → groups_at t [] ≡ []
unfolding groups_at
groups-nil t = refl

-- a group of its own rows begins with the first one
begins-some : (r : List Outcome) (i : ℕ) → 0 < length r → if_begins r i ≡ []
begins-some r i h = grind arith

rows_by : (t : List (List (List ℕ))) (n : ℕ) (groups : List Group) (rows : List GroupRows) → IsReadTo t n groups rows → (group : Group) (o : Option ℕ)
    → group_index group groups ≡ o → outcomes_at rows o ≡ group_outcomes t n group
rows_by t n groups rows r group None e = sym (r.absent group e)
rows_by t n groups rows r group (Some k) e = let w = group-here group groups k e in r.each k w.0 ∙ ap (group_outcomes t n) w.1

-- the outcomes that are read are those of the rows
pub rows-are : (t : List (List (List ℕ))) (n : ℕ) (groups : List Group) (rows : List GroupRows) → IsReadTo t n groups rows → (group : Group)
    → read_outcomes groups rows group ≡ group_outcomes t n group
unfolding read_outcomes
rows-are t n groups rows r group = rows_by t n groups rows r group (group_index group groups) refl

-- the outcomes of the group at a index
pub rows_here : (groups : List Group) (rows : List GroupRows) → AreApart groups → (k : ℕ) → k < length groups → read_outcomes groups rows (group_in groups k) ≡ (group_rows_at rows k).outcomes
unfolding read_outcomes
rows_here groups rows apart k l = ap (outcomes_at rows) (index-at groups apart k l)

pub rows-known : (groups : List Group) (rows : List GroupRows) (group : Group) (k : ℕ) → Some k ≡ group_index group groups → (group_rows_at rows k).outcomes ≡ read_outcomes groups rows group
unfolding read_outcomes
rows-known groups rows group k e = ap (outcomes_at rows) e

pub rows-new : (groups : List Group) (rows : List GroupRows) (group : Group) → None ≡ group_index group groups → [] ≡ read_outcomes groups rows group
unfolding read_outcomes
rows-new groups rows group e = ap (outcomes_at rows) e

-- a first row has no fault
pub first-none : {A E : Type 0} (r : Result A E) (line : Line) (number : ℕ) → OnOk r (fault_after [] line number ≡ None)
first-none r line number = grind arith

-- before the first row
pub read-nothing : (t : List (List (List ℕ))) (groups : List Group) (rows : List GroupRows) → groups ≡ [] → rows ≡ [] → IsReadTo t 0 groups rows
read-nothing t groups rows e f = grind (arith, firsts-zero, groups-nil, outcomes-zero)

module _ (t : List (List (List ℕ))) (i : ℕ) (line : Line) (here : Some line ≡ line_at t i) where
  -- the outcomes of a group after this row
  abbrev after : Group → List Outcome
  after group = group_outcomes t i group ++ (if same_group line.group group then line.outcome ∷ [] else [])

  next : (group : Group) → group_outcomes t (i + 1) group ≡ after group
  next group = outcomes-next t i group ∙ ap (λ o. group_outcomes t i group ++ of_group group o) (sym here)

  next-own : (group : Group) → line.group ≡ group → group_outcomes t (i + 1) group ≡ group_outcomes t i group ++ line.outcome ∷ []
  next-own group e = next group ∙ ap (λ b. group_outcomes t i group ++ (if b then line.outcome ∷ [] else [])) (same-true line.group group e)

  next-other : (group : Group) → (line.group ≡ group → ⊥) → group_outcomes t (i + 1) group ≡ group_outcomes t i group
  next-other group h = grind (arith, next, same-false, append-nil)

  firsts-same : 0 < length (group_outcomes t i line.group) → firsts t (i + 1) ≡ firsts t i
  firsts-same some = grind (arith, firsts-next, begins-some, append-nil)

  module _ (groups : List Group) (rows new : List GroupRows) (r : IsReadTo t i groups rows) where
    -- a row of a group that is there
    known_next : (k : ℕ) → group_index line.group groups ≡ Some k → IsPushed rows new k line.outcome → IsReadTo t (i + 1) groups new
    known_next k e p =
        let w = group-here line.group groups k e in
        grind (arith, firsts-same, next-own, next-other, apart-ne, cases_eq, length_push)

    -- the first row of a group
    fresh_next : (more : List Group) → group_index line.group groups ≡ None → more ≡ groups ++ line.group ∷ []
        → new ≡ rows ++ (record { line = i + 2; outcomes = line.outcome ∷ [] }) ∷ [] → IsReadTo t (i + 1) more new
    fresh_next more e g f = grind (arith, firsts-next, length-groups, length_push, get_or_append_left, get_or_push, nowhere, groups-push, below_more, same-false, next-other, next-own, push-none)

    by_index : (more : List Group) (o : Option ℕ) → group_index line.group groups ≡ o → AddsRow groups rows line (i + 2) more new → IsReadTo t (i + 1) more new
    by_index more None e a = let w = a.fresh e in fresh_next more e w.0 w.1
    by_index more (Some k) e a = let w = a.known k e in subst (λ (gs : List Group). IsReadTo t (i + 1) gs new) (sym w.0) (known_next k e w.1)

    -- after one more row
    pub read-next : (more : List Group) → AddsRow groups rows line (i + 2) more new → IsReadTo t (i + 1) more new
    read-next more a = by_index more (group_index line.group groups) refl a

-- the fault of a row
pub fault_here : (t : List (List (List ℕ))) (i : ℕ) (r : List Outcome) (line : Line) (number : ℕ) (o : Option DelayFault)
    → Some line ≡ line_at t i → r ≡ group_outcomes t i line.group → number ≡ i + 2 → fault_after r line number ≡ o → line_fault t i ≡ o
unfolding line_fault
fault_here t i r line number o e same n h = grind arith

pub bad_here : (t : List (List (List ℕ))) (i : ℕ) (number : ℕ) → None ≡ line_at t i → number ≡ i + 2 → line_fault t i ≡ Some (BadField number)
unfolding line_fault
bad_here t i number e n = sym (λ j. fault_of (group_outcomes t i) (e j) (n j))

-- each route type is within its bound
type-bounded : (t : List (List (List ℕ))) (i : ℕ) (o : Option Line) → IfSome o (IsFormed (field t RouteId i)) → IfSome (group_of o).class (λ route. route < end_of_types)
type-bounded t i o h = grind arith

pub types-bounded : (t : List (List (List ℕ))) (rows : List ℕ) (k : ℕ) → k < length (groups_at t rows) → IfSome (group_in (groups_at t rows) k).class (λ route. route < end_of_types)
unfolding groups_at
types-bounded t rows k l =
    let i = slice_index rows k in
    let inside : k < length rows = omega (arith, length-groups t rows) in
    subst (λ (g : Group). IfSome g.class (λ route. route < end_of_types))
    (sym (get_or-map (λ j. group_of (line_at t j)) rows k 0 (of_class None) inside)) (type-bounded t i (line_at t i) (formed_at t i))

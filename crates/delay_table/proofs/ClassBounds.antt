-- The class of a connection is one of those of the table.
use Rattle.delay_table.proofs.Common.{◌≡◌, ℕ, ◌+◌, ◌<◌, ◌==◌, List, length, slice_index, Option, Some, None, IfSome, option_map, arith, unwrap_or, option_or, index_by-some, DelayLists, class_for}
use Rattle.delay_table.proofs.{Common.{hour_class, hour_of, other_class, route_class, type_class, type_index, Group, group_index, AreDelays}, GroupFacts.group-here}

module _ (n : ℕ) where
  -- it is below n, where it is there
  abbrev pub Is : Option ℕ → Type 0
  Is o = IfSome o (λ k. k < n)

  pub either : (a b : Option ℕ) → Is a → Is b → Is (option_or a b)
  either a b h k = grind arith

  pub chosen : (o : Option ℕ) → 0 < n → Is o → unwrap_or o 0 < n
  chosen o some h = grind arith

type-inside : (types : List ℕ) (route k : ℕ) → type_index types route ≡ Some k → k < length types
unfolding type_index
type-inside types route k h = (index_by-some (λ i. slice_index types i == route) (length types) k h).0

shifted : (o : Option ℕ) (by n : ℕ) → ((k : ℕ) → o ≡ Some k → by + k < n) → IfSome (option_map (λ k. by + k) o) (λ k. k < n)
shifted o by n h = grind arith

raised : (o : Option ℕ) (n : ℕ) → ((k : ℕ) → o ≡ Some k → k + 1 < n) → IfSome (option_map (λ k. k + 1) o) (λ k. k < n)
raised o n h = grind arith

module _ (d : DelayLists) (s : AreDelays d) where
  abbrev Inside : Option ℕ → Type 0
  Inside o = IfSome o (λ k. k < length d.classes)

  some : 0 < length d.classes
  some = omega (arith, s.each)

  other-inside : (group : Group) → Inside (other_class d group)
  other-inside group = shifted (group_index group d.others) (length d.types + 1) (length d.classes) (λ k e. omega (arith, s.each, (group-here group d.others k e).0))

  route-inside : (route : Option (List ℕ)) (hour : Option ℕ) → Inside (route_class d route hour)
  route-inside route hour = grind (arith, other-inside)

  type-class-inside : (class : Option ℕ) → Inside (type_class d class)
  type-class-inside class = grind (arith, some, raised, type-inside)

  pub class_for-inside : (class : Option ℕ) (route : Option (List ℕ)) (arr : ℕ) → class_for d class route arr < length d.classes
  unfolding class_for
  class_for-inside class route arr =
      let n = length d.classes in
      let hour = hour_of arr in
      let A = route_class d route (Some hour) in
      let B = route_class d route None in
      let C = hour_class d class hour in
      let D = type_class d class in
      let E = hour_class d None hour in
      let last = either n D E (type-class-inside class) (other-inside (record { class = None; route = None; hour = Some hour })) in
      let hours = either n C (option_or D E) (other-inside (record { class = class; route = None; hour = Some hour })) last in
      let routes = either n B (option_or C (option_or D E)) (route-inside route None) hours in
      chosen n (option_or A (option_or B (option_or C (option_or D E)))) some (either n A (option_or B (option_or C (option_or D E))) (route-inside route (Some hour)) routes)

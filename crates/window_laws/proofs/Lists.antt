-- Lists of which one has for each element of the other one beside it.
use Rattle.std.proofs.{Common.{◌≡◌, ℕ, ◌<◌, Bool, true, List, [], map, All, Contains}, lemmas.List.Elements.{All-map, All-weaker}}
use Rattle.plan_model.proofs.Lists.{Contains-map, Contains-head}
use Rattle.connections.specs.Joins.{only_if, join_below}
use Rattle.connections.proofs.JoinLemmas.{All-join, All-only_if, Contains-join}

-- the list has an element that R holds of beside x
abbrev pub Has : {X Y : Type 0} → (X → Y → Type 0) → List Y → X → Type 0
Has {X} {Y} R ys x = (y : Y) × Contains ys y × R x y

module _ {X Y : Type 0} (R : X → Y → Type 0) where
  pub has_only_if : (a b : Bool) (x : X) (y : Y) → (a ≡ true → b ≡ true) → R x y → All (Has R (only_if b y)) (only_if a x)
  has_only_if a b x y then_too beside = All-only_if (Has R (only_if b y)) a x (λ h. let too = then_too h in (y, rw too (Contains-head y []), beside))

  -- each of the lists that are joined has one among those that the others are joined of
  pub has_joined : (f : ℕ → List X) (g : ℕ → List Y) (n m : ℕ) → ((i : ℕ) → i < n → (j : ℕ) × (j < m) × All (Has R (g j)) (f i))
      → All (Has R (join_below g m)) (join_below f n)
  has_joined f g n m each = All-join (Has R (join_below g m)) f n (λ i inside.
      let (j, there, all) = each i inside in
      All-weaker (Has R (g j)) (Has R (join_below g m)) (λ x has. (has.0, Contains-join g m j has.0 there has.1, has.2)) (f i) all)

  pub has_mapped : {A B : Type 0} (Q : A → B → Type 0) (f : A → X) (g : B → Y) (xs : List A) (ys : List B) → ((a : A) (b : B) → Q a b → R (f a) (g b)) → All (Has Q ys) xs
      → All (Has R (map g ys)) (map f xs)
  has_mapped Q f g xs ys beside all = All-map (Has R (map g ys)) f xs
      (All-weaker (Has Q ys) (λ a. Has R (map g ys) (f a)) (λ a has. (g has.0, Contains-map g ys has.0 has.1, beside a has.0 has.2)) xs all)

-- Groups of the rows of a delay file: each is of one class, one route and one hour.
use Rattle.std.specs.Prelude.{ℕ, zero, suc, ◌==◌, Bool, true, false, ◌&&◌, List, [], ◌∷◌, ◌++◌, length, slice_index_or, fold, Option, Some, None, is_none}
use Rattle.std.specs.{Prelude.{is_some, option_map, if◌then◌else◌}, Str.bytes_eq}
use Rattle.csv_rows.specs.{Lists.first_below, Tables.number_in}

-- what the rows are of: the route type of the class, and none for `*`; a route and an hour, if there are
pub record Group : Type 0 where
  pub class : Option ℕ
  pub route : Option (List ℕ)
  pub hour : Option ℕ

-- both are there and the same, or neither is
abbrev pub same_if : {A : Type 0} → (A → A → Bool) → Option A → Option A → Bool
same_if same None None = true
same_if same None (Some b) = false
same_if same (Some a) None = false
same_if same (Some a) (Some b) = same a b

abbrev pub same_number : ℕ → ℕ → Bool
same_number a b = a == b

unfoldable pub same_group : Group → Group → Bool
same_group a b = same_if same_number a.class b.class && (same_if bytes_eq a.route b.route && same_if same_number a.hour b.hour)

-- the group of a class alone
abbrev pub of_class : Option ℕ → Group
of_class class = record { class = class; route = None; hour = None }

-- whether it is of a class alone
abbrev pub is_plain : Group → Bool
is_plain group = is_none group.route && is_none group.hour

-- the route type, where it is of a route type alone
abbrev pub plain_type : Group → Option ℕ
plain_type group = if is_plain group then group.class else None

abbrev pub group_in : List Group → ℕ → Group
group_in groups k = slice_index_or groups k (of_class None)

-- the index of a group among others
unfoldable pub group_index : Group → List Group → Option ℕ
group_index group groups = first_below (λ k. if same_group (group_in groups k) group then Some k else None) (length groups)

-- one element, where there is one
abbrev pub listed : Option ℕ → List ℕ
listed None = []
listed (Some n) = n ∷ []

-- the route types of the groups of a route type alone among the first n, in the order of the groups
unfoldable pub plain_types : List Group → ℕ → List ℕ
plain_types groups zero = []
plain_types groups (suc n) = plain_types groups n ++ listed (plain_type (group_in groups n))

-- one more route goes last, unless there is none or it is among them
abbrev pub with_route : List (List ℕ) → Option (List ℕ) → List (List ℕ)
with_route routes None = routes
with_route routes (Some id) = if is_some (number_in id routes) then routes else routes ++ id ∷ []

-- the routes that groups name, each once, in the order of the groups
unfoldable pub routes_of : List Group → List (List ℕ)
routes_of groups = fold (λ routes (group : Group). with_route routes group.route) [] groups

-- the route of a number, if there is one
abbrev pub numbered_route : List (List ℕ) → Option ℕ → Option (List ℕ)
numbered_route routes number = option_map (λ k. slice_index_or routes k []) number

-- one more group goes last, unless it is there
abbrev pub with_group : List Group → Group → List Group
with_group groups group = if is_some (group_index group groups) then groups else groups ++ group ∷ []

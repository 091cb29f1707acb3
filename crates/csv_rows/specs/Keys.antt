-- The rows of a table by group, order and position in the file.
use Rattle.std.specs.Prelude.{◌≡◌, ◌≢◌, ℕ, ◌-◌, ◌<◌, ◌≤◌, ◌==◌, nat_lt, ◌⊎◌, Bool, true, not, ◌&&◌, List, length, slice_index_or, Option, Some, None}
use Rattle.std.specs.Prelude.{if◌then◌else◌}
use Rattle.csv_rows.specs.{Lists.any_below, declared.keys.Key.Key}

abbrev pub no_key : Key
no_key = record { group = 0; order = 0; row = 0 }

abbrev pub key_at : List Key → ℕ → Key
key_at keys k = slice_index_or keys k no_key

-- by group, then by order, then by position in the file
abbrev pub IsAtMost : Key → Key → Type 0
IsAtMost a b = (a.group < b.group) ⊎ ((a.group ≡ b.group) × ((a.order < b.order) ⊎ ((a.order ≡ b.order) × (a.row ≤ b.row))))

abbrev pub IsRising : List Key → Type 0
IsRising keys = (k l : ℕ) → k < l → l < length keys → IsAtMost (key_at keys k) (key_at keys l)

-- they rise, and are the keys of the rows below `count` of which the test holds, one of each
pub record AreSorted (test : ℕ → Bool) (group order : ℕ → ℕ) (count : ℕ) (keys : List Key) : Type 0 where
  pub inside : (k : ℕ) → k < length keys → (key_at keys k).row < count
  pub groups : (k : ℕ) → k < length keys → (key_at keys k).group ≡ group (key_at keys k).row
  pub orders : (k : ℕ) → k < length keys → (key_at keys k).order ≡ order (key_at keys k).row
  pub taken : (k : ℕ) → k < length keys → test (key_at keys k).row ≡ true
  pub all : (i : ℕ) → i < count → test i ≡ true → (k : ℕ) × (k < length keys) × ((key_at keys k).row ≡ i)
  pub once : (k l : ℕ) → k < l → l < length keys → (key_at keys k).row ≢ (key_at keys l).row
  pub rising : IsRising keys

-- the key before, if it is of the same group
abbrev pub IsBefore : List Key → ℕ → Option Key → Type 0
IsBefore keys k None = (0 < k → (key_at keys (k - 1)).group ≢ (key_at keys k).group)
IsBefore keys k (Some before) = (0 < k) × (before ≡ key_at keys (k - 1)) × (before.group ≡ (key_at keys k).group)

-- an earlier row has the group and the order of row i
abbrev pub has_twin : (group order : ℕ → ℕ) → ℕ → Bool
has_twin group order i = any_below (λ j. (group j == group i) && (order j == order i)) i

unfoldable pub twin_at : (group order : ℕ → ℕ) → ℕ → Option ℕ
twin_at group order i = if has_twin group order i then Some i else None

-- row j comes before row i in its group, and the test holds of both
abbrev pub precedes : (test : ℕ → Bool) (group order : ℕ → ℕ) → ℕ → ℕ → Bool
precedes test group order j i = (test j && test i) && ((group j == group i) && nat_lt (order j) (order i))

-- and no such row of the group is between
abbrev pub just_precedes : (test : ℕ → Bool) (group order : ℕ → ℕ) (count : ℕ) → ℕ → ℕ → Bool
just_precedes test group order count j i =
    precedes test group order j i && not (any_below (λ k. precedes test group order j k && precedes test group order k i) count)

-- the row of a key, if the key before it has its order too
abbrev pub repeated : Option Key → Key → Option ℕ
repeated None here = None
repeated (Some before) here = if before.order == here.order then Some here.row else None

-- the sooner of two faults, by their rows
abbrev pub sooner : {F : Type 0} → Option (ℕ × F) → ℕ → Option F → Option (ℕ × F)
sooner first row None = first
sooner None row (Some fault) = Some (row, fault)
sooner (Some found) row (Some fault) = if nat_lt found.0 row then Some found else Some (row, fault)

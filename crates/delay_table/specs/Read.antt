-- The rows of a delay file by their groups, as far as they are read.
use Rattle.std.specs.Prelude.{◌≡◌, ℕ, ◌+◌, ◌<◌, false, List, [], ◌∷◌, ◌++◌, length, slice_index, slice_index_or, Option, Some, None}
use Rattle.plan_model.specs.declared.model.Outcome.{Outcome}
use Rattle.delay_table.specs.{declared.reading.GroupRows.GroupRows, Delays.{Line, group_outcomes, firsts, groups_at}, Groups.{Group, group_in, same_group}}
use Rattle.delay_table.specs.{Groups.group_index, DelayLists.end_of_types, Slots.IsGroupStart}

abbrev pub no_rows : GroupRows
no_rows = record { line = 0; outcomes = [] }

abbrev pub group_rows_at : List GroupRows → ℕ → GroupRows
group_rows_at rows k = slice_index_or rows k no_rows

abbrev pub outcomes_at : List GroupRows → Option ℕ → List Outcome
outcomes_at rows None = []
outcomes_at rows (Some k) = (group_rows_at rows k).outcomes

-- the outcomes of a group, which are none where it is not there
unfoldable pub read_outcomes : List Group → List GroupRows → Group → List Outcome
read_outcomes groups rows group = outcomes_at rows (group_index group groups)

-- no group comes twice
abbrev pub AreApart : List Group → Type 0
AreApart groups = (i j : ℕ) → i < j → j < length groups → same_group (group_in groups i) (group_in groups j) ≡ false

-- one more outcome of the group at a index
pub record IsPushed (old new : List GroupRows) (index : ℕ) (outcome : Outcome) : Type 0 where
  pub size : length new ≡ length old
  pub lines : (k : ℕ) → (group_rows_at new k).line ≡ (group_rows_at old k).line
  pub here : (group_rows_at new index).outcomes ≡ (group_rows_at old index).outcomes ++ outcome ∷ []
  pub others : (k : ℕ) → (k ≡ index → ⊥) → (group_rows_at new k).outcomes ≡ (group_rows_at old k).outcomes

-- one more row, of a group that is there or of a new one
pub record AddsRow (groups : List Group) (rows : List GroupRows) (line : Line) (number : ℕ) (more : List Group) (new : List GroupRows) : Type 0 where
  pub known : (k : ℕ) → group_index line.group groups ≡ Some k → (more ≡ groups) × IsPushed rows new k line.outcome
  pub fresh : group_index line.group groups ≡ None → (more ≡ groups ++ line.group ∷ []) × (new ≡ rows ++ (record { line = number; outcomes = line.outcome ∷ [] }) ∷ [])

-- these are the groups of the first n rows, and their outcomes
pub record IsReadTo (t : List (List (List ℕ))) (n : ℕ) (groups : List Group) (rows : List GroupRows) : Type 0 where
  pub are : groups ≡ groups_at t (firsts t n)
  pub size : length rows ≡ length groups
  pub apart : AreApart groups
  pub lines : (k : ℕ) → k < length groups → (group_rows_at rows k).line ≡ slice_index (firsts t n) k + 2
  pub each : (k : ℕ) → k < length groups → (group_rows_at rows k).outcomes ≡ group_outcomes t n (group_in groups k)
  pub some : (k : ℕ) → k < length groups → 0 < length (group_rows_at rows k).outcomes
  pub absent : (group : Group) → group_index group groups ≡ None → group_outcomes t n group ≡ []

abbrev pub line_at : List GroupRows → ℕ → ℕ
line_at rows k = (group_rows_at rows k).line

-- groups that were read without a fault, and their outcomes
pub record AreGroupsRead (groups : List Group) (rows : List GroupRows) : Type 0 where
  pub size : length rows ≡ length groups
  pub apart : AreApart groups
  pub some : (k : ℕ) → k < length groups → 0 < length (read_outcomes groups rows (group_in groups k))
  pub starts : (group : Group) → IsGroupStart (read_outcomes groups rows group)
  pub types : (k route : ℕ) → k < length groups → (group_in groups k).class ≡ Some route → route < end_of_types

-- The number of the groups is reported where there are too many, and by no other fault.
use Rattle.delay_table.proofs.Common.{◌≡◌, ℕ, ◌<◌, ◌+◌, nat_lt, Bool, true, List, length, Option, Some, None, option_map, if◌then◌else◌, arith, cases_Bool, nat_tests, Outcome, first_below}
use Rattle.delay_table.proofs.Common.{row_count, first-is, option_or, DelayFault, MissingColumn, TooManyClasses, WeightSum, GroupSum, MOST_GROUPS, Group, Line, class_name, class_rows, class_sum}
use Rattle.delay_table.proofs.Common.{fault_of, groups_fault, line_fault, missing_column, no_default_of, other_sum, group_outcomes}
use Rattle.delay_table.specs.Delays.{line_at}
use Rattle.csv_rows.specs.declared.columns.Column.{Column}

-- a fault that has no number of groups, or none
abbrev pub IsOther : Option DelayFault → Type 0
IsOther o = (n : ℕ) → o ≡ Some (TooManyClasses n) → ⊥

either : (a b : Option DelayFault) → IsOther a → IsOther b → IsOther (option_or a b)
either a b h k = grind arith

mapped : (f : ℕ → DelayFault) (o : Option ℕ) → ((s : ℕ) → IsOther (Some (f s))) → IsOther (option_map f o)
mapped f o h n e = grind arith

first : (f : ℕ → Option DelayFault) (count : ℕ) → ((k : ℕ) → IsOther (f k)) → IsOther (first_below f count)
first f count h n e = let w = first-is f count (TooManyClasses n) e in h w.index n w.here

class-other : (rows : Group → List Outcome) (class : Option ℕ) → IsOther (class_sum rows class)
class-other rows class = mapped (WeightSum (class_name class)) (other_sum (class_rows rows class)) (λ s n e. absurd (cc))

group_if : (plain : Bool) (line : ℕ) (o : Option ℕ) → IsOther (if plain then None else option_map (GroupSum line) o)
group_if plain line o n e = grind (arith, cases_Bool plain, mapped)

default-other : (r : List Outcome) → IsOther (no_default_of r)
default-other r n e = grind arith

counted : (b : Bool) (count n : ℕ) (rest : Option DelayFault) → IsOther rest → option_or (if b then Some (TooManyClasses count) else None) rest ≡ Some (TooManyClasses n) → (n ≡ count) × (b ≡ true)
counted b count n rest h e = grind (arith, cases_Bool b)

passes : (count : ℕ) → nat_lt MOST_GROUPS count ≡ true → MOST_GROUPS < count
passes count h = grind (arith, nat_tests)

pub reported-count : (rows : Group → List Outcome) (groups : List Group) (line_of : ℕ → ℕ) (n : ℕ) → groups_fault rows groups line_of ≡ Some (TooManyClasses n) → (n ≡ length groups) × (MOST_GROUPS < n)
reported-count rows groups line_of n h = grind (arith, either, class-other, first, group_if, default-other, counted, passes)

column_if : (b : Bool) (column : Column) → IsOther (if b then Some (MissingColumn column) else None)
column_if b column n e = grind (arith, cases_Bool b)

pub column-other : (t : List (List (List ℕ))) → IsOther (missing_column t)
column-other t = grind (arith, either, column_if)

row_if : (many rising plain : Bool) (a b c : DelayFault) → IsOther (Some a) → IsOther (Some b) → IsOther (Some c)
    → IsOther (if many then Some (if plain then a else b) else if rising then None else Some c)
row_if many rising plain a b c h k m n e = grind (arith, cases_Bool many, cases_Bool rising, cases_Bool plain)

row-other : (earlier : Group → List Outcome) (o : Option Line) (number : ℕ) → IsOther (fault_of earlier o number)
row-other earlier o number n e = grind (arith, row_if)

line-other : (t : List (List (List ℕ))) (i : ℕ) → IsOther (line_fault t i)
unfolding line_fault
line-other t i = row-other (group_outcomes t i) (line_at t i) (i + 2)

pub lines-other : (t : List (List (List ℕ))) → IsOther (first_below (line_fault t) (row_count t))
lines-other t = first (line_fault t) (row_count t) (line-other t)

-- One row of the table.
use Rattle.std.proofs.lemmas.Grind.{common_steps}
use Rattle.delay_table.proofs.Common.{◌≡◌, ℕ, ◌≤◌, Bool, false, ◌==◌, List, Option, Some, None, IfSome, ◌<◌, option_map, if◌then◌else◌, ap, ◌∙◌, subst, arith, is_none, bytes_eq, cases_Bool}
use Rattle.delay_table.proofs.Common.{nat_tests, Class, Delay, Weight, RouteId, Hour, field, field_at, seconds_per_day, end_of_types, Line, not_zero, given, line_from}
use Rattle.delay_table.specs.{declared.lines.DelayLine.DelayLine, Delays.line_at}
use Rattle.clock_text.proofs.DigitLemmas.{whole_bound}
use Rattle.csv_rows.proofs.RowLemmas.{mapped-each, name_text, optional-each}

one_on : (b : Bool) (w : ℕ) → (b ≡ false → 1 ≤ w) → IfSome (if b then None else Some w) (λ n. 1 ≤ n)
one_on b w h = grind (arith, cases_Bool b)

zero_test : (w : ℕ) → (w == 0) ≡ false → 1 ≤ w
zero_test w h = grind (arith, nat_tests)

weight_bound : (o : Option ℕ) → IfSome (not_zero o) (λ n. 1 ≤ n)
weight_bound o = grind (arith, one_on, zero_test)

-- what holds of what comes next, holds where it is there
given-holds : {A B : Type 0} (P : B → Type 0) (o : Option A) (next : A → Option B) → ((a : A) → o ≡ Some a → IfSome (next a) P) → IfSome (given o next) P
given-holds P o next h = grind arith

route-each : (P : List ℕ → Type 0) (empty any : Bool) (o : Option (List ℕ)) → ((x : List ℕ) → o ≡ Some x → P x) → (r : Option (List ℕ))
    → (if empty then Some None else if any then option_map Some o else None) ≡ Some r → IfSome r P
route-each P empty any o h r e = grind (arith, cases_Bool empty, cases_Bool any, optional-each, mapped-each)

-- what a row says, where each field is of its form: its route is the field
pub record IsFormed (field : List ℕ) (line : Line) : Type 0 where
  pub delay : line.outcome.delay ≤ seconds_per_day
  pub weight : 1 ≤ line.outcome.weight
  pub route : IfSome line.group.route (λ r. r ≡ field)
  pub class : IfSome line.group.class (λ r. r < end_of_types)

bound_at : (P : ℕ → Type 0) (o : Option ℕ) (n : ℕ) → IfSome o P → o ≡ Some n → P n
bound_at P o n h e = subst (λ (x : Option ℕ). IfSome x P) e h

pub line_formed : (class delay weight route hour : List ℕ) → IfSome (line_from class delay weight route hour) (IsFormed route)
line_formed class delay weight route hour = grind (arith, common_steps, given-holds, whole_bound, bound_at, weight_bound, route-each, is_none, name_text, optional-each, bytes_eq)

pub formed_at : (t : List (List (List ℕ))) (i : ℕ) → IfSome (line_at t i) (IsFormed (field t RouteId i))
unfolding line_at
formed_at t i = line_formed (field t Class i) (field t Delay i) (field t Weight i) (field t RouteId i) (field t Hour i)

-- the row at a index, by its fields
pub line_here : (t : List (List (List ℕ))) (i : ℕ) (a b c d e : List ℕ) → a ≡ field t Class i → b ≡ field t Delay i → c ≡ field t Weight i → d ≡ field t RouteId i → e ≡ field t Hour i
    → line_from a b c d e ≡ line_at t i
unfolding line_at
line_here t i a b c d e p q r s u = λ j. line_from (p j) (q j) (r j) (s j) (u j)

-- a field under a column
pub field_is : (t : List (List (List ℕ))) (i : ℕ) (a : List ℕ) (index own : Option ℕ) → a ≡ field_at t index i → index ≡ own → a ≡ field_at t own i
field_is t i a index own e f = e ∙ ap (λ o. field_at t o i) f

-- what holds of a value of another form
pub of-mapped : {X Y : Type 0} (f : X → Y) (P : Y → Type 0) (o : Option X) (m : Option Y) → option_map f o ≡ m → IfSome m P → IfSome o (λ x. P (f x))
of-mapped f P o m e h = grind arith

-- the line that is read
abbrev pub own_line : DelayLine → Line
own_line l = record { group = record { class = l.class; route = option_map (λ s. s.now) l.route; hour = l.hour }; outcome = l.outcome }

pub line_is_formed : (class delay weight route hour : List ℕ) (o : Option DelayLine) → option_map own_line o ≡ line_from class delay weight route hour
    → IfSome o (λ l. (l.outcome.delay ≤ seconds_per_day) × (1 ≤ l.outcome.weight))
line_is_formed class delay weight route hour None e = tt
line_is_formed class delay weight route hour (Some l) e =
    let f = of-mapped own_line (IsFormed route) (Some l) (line_from class delay weight route hour) e (line_formed class delay weight route hour) in
    (f.delay, f.weight)

-- In which table a fault is, and the first of several.
use Rattle.csv_rows.proofs.Common.{◌≡◌, ℕ, ◌<◌, Option, None, Result, IfErr, ap, ◌∙◌, IsErr, IsErrAnd, ⊤, option_or, Table, FeedFault, first_below, IsFirstFault, MatchResult, arith, ReportsFirst}
use Rattle.csv_rows.proofs.FirstLemmas.{first-at}

-- what a step that failed says of its error holds of what `?` passes on
pub match_raised : {A E : Type 0} {e : E} (Q : Type 0) (P : E → Type 0) (r : Result A E) → IsErr r × IsErrAnd r (λ raised. raised ≡ e) → P e → MatchResult r (λ _. Q) P
match_raised Q P r h p = grind arith

pub if_raised : {A E : Type 0} {e : E} (P : E → Type 0) (r : Result A E) → IsErr r × IsErrAnd r (λ raised. raised ≡ e) → P e → IfErr r P
if_raised P r h p = match_raised ⊤ P r h p

-- the fault of a step is that of the steps of which it is the first
module _ {table : Table} (a b : Option FeedFault) (fault : FeedFault) where
  pub fault-first : IsFirstFault table a fault → IsFirstFault table (option_or a b) fault
  fault-first h = record { why = λ free. ap (λ o. option_or o b) (h.why free); content = h.content; own = h.own }

  pub fault-then : a ≡ None → IsFirstFault table b fault → IsFirstFault table (option_or a b) fault
  fault-then none h = record { why = λ free. ap (λ o. option_or o b) none ∙ h.why free; content = h.content; own = h.own }

-- a step after others that had none
pub reports-then : {T : Type 0} (table : Table) (a b : Option FeedFault) (r : Result T FeedFault) → a ≡ None → ReportsFirst table b r → ReportsFirst table (option_or a b) r
reports-then table a b r none h = grind (arith, fault-then)

-- the fault of a row, where those before it have none
pub fault-at : {table : Table} (f : ℕ → Option FeedFault) (i n : ℕ) {first : Option FeedFault} {fault : FeedFault} → i < n → first_below f i ≡ None → f i ≡ first
    → IsFirstFault table first fault → IsFirstFault table (first_below f n) fault
fault-at f i n inside none here h = record { why = λ free. first-at f i n _ inside none (here ∙ h.why free); content = h.content; own = h.own }

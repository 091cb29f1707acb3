-- A text gives one certificate, or has one first fault, and that is never that memory ran out.
use Rattle.lower_proof.proofs.Common.{◌≡◌, ◌≢◌, ℕ, zero, suc, ◌+◌, ◌<◌, ◌⊎◌, Bool, List, Option, Some, None, Ok, Err, Result, arith, inl, inr, sym, ◌∙◌, ap, subst, ext_get_or, if◌then◌else◌}
use Rattle.lower_proof.proofs.Common.{result_err, cases_eq, cases_lt, cases_order, row_count, header, Query, NetworkModel, NameLists, LowerBounds, BoundsRow, RowValue, ProofFault, Row, NoMemory}
use Rattle.lower_proof.proofs.Common.{bound_of, bounds_row_in, bounds_in, value_row_in, connection_in, reported_in, value_row, connection_before, IsFirstLineFault, IsFaultAfter}
use Rattle.lower_proof.proofs.Common.{AreValuesReported, IsProofReported, IsProofRead}
use Rattle.plan_model.specs.Results.{require}

-- ---- memory is enough for each line

-- the fault of a chain is that of its first part, or of the rest
require-err : {A B E : Type 0} (o : Option A) (fault : E) (next : A → Result B E) (f : E) → require o fault next ≡ Err f → (fault ≡ f) ⊎ ((a : A) × (next a ≡ Err f))
require-err o fault next f is = grind arith

if-err : {A E : Type 0} (test : Bool) (a : A) (fault f : E) → (if test then Ok a else Err fault) ≡ Err f → fault ≡ f
if-err test a fault f is = grind arith

reported_in_memory : (n : NetworkModel) (names : NameLists) (line : ℕ) (before : Option ℕ) (r : List (List ℕ)) → reported_in n names line before r ≡ Err NoMemory → ⊥
reported_in_memory n names line before r is = elim (require-err (value_row_in r) (Row line) _ NoMemory is) [
  | inl e ↦ absurd (cc)
  | inr row ↦ grind (arith, require-err, if-err)
]

bounds_in_memory : (names : NameLists) (source target start : ℕ) (r : List (List ℕ)) → bounds_in names source target start r ≡ Err NoMemory → ⊥
bounds_in_memory names source target start r is = elim (require-err (bounds_row_in r) (Row 1) _ NoMemory is) [
  | inl e ↦ absurd (cc)
  | inr row ↦ grind (arith, require-err, if-err)
]

result_err-some : {A E : Type 0} (r : Result A E) (f : E) → result_err r ≡ Some f → r ≡ Err f
result_err-some r f is = grind arith

cond_memory : (test : Bool) (reported : Result RowValue ProofFault) (line : ℕ) → (reported ≡ Err NoMemory → ⊥) → (if test then result_err reported else Some (Row line)) ≡ Some NoMemory → ⊥
cond_memory test reported line not is = grind (arith, result_err-some)

after_memory : (n : NetworkModel) (names : NameLists) (t : List (List (List ℕ))) (first : Result BoundsRow ProofFault) → (first ≡ Err NoMemory → ⊥) → IsFaultAfter n names t first NoMemory → ⊥
after_memory n names t (Ok bounds) not late =
    cond_memory _ (reported_in n names (late.i + 2) (connection_before n names t late.i) (value_row t late.i)) (late.i + 2)
    (reported_in_memory n names (late.i + 2) (connection_before n names t late.i) (value_row t late.i)) late.here
after_memory n names t (Err fault) not is = not (ap Err is)

-- the first fault of a text is not that there was no memory
pub never_memory : (n : NetworkModel) (names : NameLists) (source target start : ℕ) (t : List (List (List ℕ))) (fault : ProofFault)
    → IsFaultAfter n names t (bounds_in names source target start (header t)) fault → fault ≢ NoMemory
never_memory n names source target start t fault late same =
    after_memory n names t (bounds_in names source target start (header t)) (bounds_in_memory names source target start (header t))
    (subst (λ (f : ProofFault). IsFaultAfter n names t (bounds_in names source target start (header t)) f) same late)

-- ---- one certificate

same_query : (a b : Query) → a.source.0 ≡ b.source.0 → a.target.0 ≡ b.target.0 → a.start.0 ≡ b.start.0 → a.deadline ≡ b.deadline → a ≡ b
same_query a b s t u d = λ i. record { source = record { 0 = s i }; target = record { 0 = t i }; start = record { 0 = u i }; deadline = d i }

same_read : (a b : Query × LowerBounds) → a.0 ≡ b.0 → a.1.values ≡ b.1.values → a ≡ b
same_read a b query values = λ i. (query i, record { values = values i })

is_number : (o : Option ℕ) (c : ℕ) → (o ≡ Some c) ⊎ (o ≢ Some c)
is_number o c = grind (arith, cases_eq)

module _ (n : NetworkModel) (names : NameLists) (t : List (List (List ℕ))) where
  -- one of the first m rows is of a connection, or none is
  of_rows : (c m : ℕ) → ((i : ℕ) × (i < m) × (connection_in n names (value_row t i) ≡ Some c)) ⊎ ((i : ℕ) → i < m → connection_in n names (value_row t i) ≢ Some c)
  of_rows c zero = inr (λ i less. absurd (omega (arith, less)))
  of_rows c (suc m) = elim (of_rows c m) [
    | inl at ↦ inl (at.0, omega (arith, at.1), at.2)
    | inr never ↦ elim (is_number (connection_in n names (value_row t m)) c) [
      | inl here ↦ inl (m, omega arith, here)
      | inr other ↦ inr (λ i less at. elim (cases_lt i m) [
        | inl own ↦ never i own at
        | inr le ↦ let same : i ≡ m = omega (arith, le, less) in other (subst (λ (k : ℕ). connection_in n names (value_row t k) ≡ Some c) same at)
      ])
    ]
  ]

  one_values : (stated other : ℕ) (a b : List (Option ℕ)) → AreValuesReported n names t stated a → AreValuesReported n names t other b → a ≡ b
  one_values stated other a b one two = ext_get_or None a b (one.as_many ∙ sym two.as_many) (λ c within. same c)
    where
      same : (c : ℕ) → bound_of a c ≡ bound_of b c
      same c = elim (of_rows c (row_count t)) [
        | inl at ↦ one.reported at.0 c at.1 at.2 ∙ sym (two.reported at.0 c at.1 at.2)
        | inr never ↦ one.others c never ∙ sym (two.others c never)
      ]

  one_fault : (stated : ℕ) (f g : ProofFault) → IsFirstLineFault n names t stated f → IsFirstLineFault n names t stated g → f ≡ g
  one_fault stated f g one two = grind (arith, cases_order)

  after_one : (first : Result BoundsRow ProofFault) (f g : ProofFault) → IsFaultAfter n names t first f → IsFaultAfter n names t first g → f ≡ g
  after_one first f g one two = grind (arith, one_fault)

  not_both : (first : Result BoundsRow ProofFault) (bounds : BoundsRow) (values : List (Option ℕ)) (f : ProofFault) → first ≡ Ok bounds
      → AreValuesReported n names t bounds.number values → IsFaultAfter n names t first f → ⊥
  not_both first bounds values f is reported late = grind arith

module _ (n : NetworkModel) (names : NameLists) (source target start : ℕ) where
  one_reported : (t : List (List (List ℕ))) (a b : Query × LowerBounds) → IsProofReported n names source target start t a.0 a.1.values → IsProofReported n names source target start t b.0 b.1.values → a ≡ b
  one_reported t a b one two =
      let both : ◌≡◌ {A = Result BoundsRow ProofFault} (Ok one.bounds) (Ok two.bounds) = sym one.head ∙ two.head in
      let same : ◌≡◌ {A = BoundsRow} one.bounds two.bounds = cc in
      same_read a b
      (same_query a.0 b.0 (one.from ∙ sym two.from) (one.to ∙ sym two.to) (one.since ∙ sym two.since) (one.until ∙ ap (λ (r : BoundsRow). r.deadline) same ∙ sym two.until))
      (one_values n names t one.bounds.number two.bounds.number a.1.values b.1.values one.reported two.reported)

  -- what is read of a text is one, unless memory runs out
  pub read_once : (text : List ℕ) (r s : Result (Query × LowerBounds) ProofFault) → IsProofRead n names source target start text r → IsProofRead n names source target start text s
      → r ≢ Err NoMemory → s ≢ Err NoMemory → r ≡ s
  read_once text r s given one two three = grind (arith, one_reported, not_both, after_one)

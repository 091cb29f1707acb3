-- What is read of the value rows so far.
use Rattle.lower_proof.proofs.Common.{◌≡◌, ◌≢◌, ℕ, suc, ◌+◌, ◌<◌, ◌≤◌, ◌⊎◌, true, List, length, set, Option, Some, None, Ok, Err, Result, arith, inl, inr, sym, ◌∙◌, ap, subst, refl}
use Rattle.lower_proof.proofs.Common.{get_or-set_other, get_or-set_same, max, option_and_then, lt-ltb, ltb-true, le-ltb, length-set, result_err, le-max_left, cases_lt, get_or_past, row_count}
use Rattle.lower_proof.proofs.Common.{require-ok, if-value, NetworkModel, NameLists, count, field, number_of, connection_of, rises, ValueRow, RowValue, ProofFault, Row, bound_of, value_row_in}
use Rattle.lower_proof.proofs.Common.{connection_in, nanos_in, reported_in, value_row, connection_before, value_fault, IsFirstLineFault, AreValuesReported}

-- ---- a row that is well formed

record Reports (n : NetworkModel) (names : NameLists) (before : Option ℕ) (r : List (List ℕ)) (reported : RowValue) : Type 0 where
  connection : connection_in n names r ≡ Some reported.id.0
  value : nanos_in r ≡ Some reported.value
  rise : rises before reported.id.0 ≡ true

reports : (n : NetworkModel) (names : NameLists) (line : ℕ) (before : Option ℕ) (r : List (List ℕ)) (reported : RowValue) → reported_in n names line before r ≡ Ok reported → Reports n names before r reported
reports n names line before r reported is =
    let x = require-ok (value_row_in r) _ _ reported is in
    let run = require-ok (number_of names.runs (field r 1)) _ _ reported x.2 in
    let c = require-ok (connection_of n run.0 x.0.step) _ _ reported run.2 in
    let own = if-value (rises before c.0) _ _ reported c.2 in
    grind arith
  where
    by_parts : (row : Option ValueRow) (run : Option ℕ) {x : ValueRow} {k c : ℕ} → row ≡ Some x → run ≡ Some k → connection_of n k x.step ≡ Some c
        → option_and_then (λ y. option_and_then (λ own. connection_of n own y.step) run) row ≡ Some c
    by_parts row run one two is = rw (one, two) is

above : (last : Option ℕ) (l c : ℕ) → last ≡ Some l → rises last c ≡ true → l < c
above last l c is rise = grind (arith, ltb-true)

-- ---- the rows below i

pub record IsReadTo (n : NetworkModel) (names : NameLists) (t : List (List (List ℕ))) (stated i : ℕ) (values : List (Option ℕ)) (last : Option ℕ) : Type 0 where
  pub rows : i ≤ row_count t
  pub stated_rows : i ≤ stated
  pub faultless : (k : ℕ) → k < i → value_fault n names t stated k ≡ None
  pub before : last ≡ connection_before n names t i
  pub below : (k c : ℕ) → k < i → connection_in n names (value_row t k) ≡ Some c → (l : ℕ) × (last ≡ Some l) × (c ≤ l)
  pub as_many : length values ≡ count n
  pub reported : (k c : ℕ) → k < i → connection_in n names (value_row t k) ≡ Some c → bound_of values c ≡ nanos_in (value_row t k)
  pub others : (c : ℕ) → ((k : ℕ) → k < i → connection_in n names (value_row t k) ≢ Some c) → bound_of values c ≡ None

pub read_first : (n : NetworkModel) (names : NameLists) (t : List (List (List ℕ))) (stated : ℕ) (values : List (Option ℕ)) → length values ≡ count n → ((c : ℕ) → bound_of values c ≡ None)
    → IsReadTo n names t stated 0 values None
read_first n names t stated values as_many none = grind arith

-- the fault of row i, by what it gives after the row before
fault_is : (n : NetworkModel) (names : NameLists) (t : List (List (List ℕ))) (stated i : ℕ) (last : Option ℕ) (reported : Result RowValue ProofFault) → i < stated → last ≡ connection_before n names t i
    → reported ≡ reported_in n names (i + 2) last (value_row t i) → value_fault n names t stated i ≡ result_err reported
fault_is n names t stated i last reported inside before is = grind (arith, lt-ltb, result_err)

module _ (n : NetworkModel) (names : NameLists) (t : List (List (List ℕ))) (stated i : ℕ) (values : List (Option ℕ)) (last : Option ℕ) (so_far : IsReadTo n names t stated i values last) where
  below_or_here : (k : ℕ) → k < i + 1 → (k < i) ⊎ (k ≡ i)
  below_or_here k less = elim (cases_lt k i) [ inl own ↦ inl own | inr le ↦ inr (omega (arith, le, less)) ]

  -- with row i
  pub read_on : (reported : RowValue) → i < row_count t → i < stated → Ok reported ≡ reported_in n names (i + 2) last (value_row t i) → reported.id.0 < count n
      → IsReadTo n names t stated (i + 1) (set values reported.id.0 (Some reported.value)) (Some reported.id.0)
  read_on reported inside within is there = record {
    rows = omega (arith, inside);
    stated_rows = omega (arith, within);
    faultless = λ k less. elim (below_or_here k less) [
      | inl own ↦ so_far.faultless k own
      | inr same ↦ subst (λ (m : ℕ). value_fault n names t stated m ≡ None) (sym same) (fault_is n names t stated i last (Ok reported) within so_far.before is)
    ];
    before = let one : suc i ≡ i + 1 = omega arith in subst (λ (m : ℕ). Some c ≡ connection_before n names t m) one (sym own_row.connection);
    below = λ k d less at. elim (below_or_here k less) [
      | inl own ↦ let b = so_far.below k d own at in let l_below = above last b.0 c b.1 own_row.rise in (c, refl, omega (arith, l_below, b.2))
      | inr same ↦ let e = named k d same at in (c, refl, omega (arith, e))
    ];
    as_many = length-set values c (Some reported.value) ∙ so_far.as_many;
    reported = λ k d less at. elim (below_or_here k less) [
      | inl own ↦ get_or-set_other values c d (Some reported.value) None (λ e. fresh k own (at ∙ ap Some e)) ∙ so_far.reported k d own at
      | inr same ↦
          subst (λ (m : ℕ). bound_of (set values c (Some reported.value)) d ≡ nanos_in (value_row t m)) (sym same)
          (subst (λ (m : ℕ). bound_of (set values c (Some reported.value)) m ≡ nanos_in (value_row t i)) (sym (named k d same at)) (stored ∙ sym own_row.value))
    ];
    others = λ d never.
        get_or-set_other values c d (Some reported.value) None (λ e. never i (omega arith) (own_row.connection ∙ ap Some (sym e)))
        ∙ so_far.others d (λ k less. never k (omega (arith, less)));
  }
    where
      c : ℕ
      c = reported.id.0

      own_row : Reports n names last (value_row t i) reported
      own_row = reports n names (i + 2) last (value_row t i) reported (sym is)

      fresh : (k : ℕ) → k < i → connection_in n names (value_row t k) ≢ Some c
      fresh k less at = let b = so_far.below k c less at in let l_below = above last b.0 c b.1 own_row.rise in omega (arith, l_below, b.2)

      named : (k d : ℕ) → k ≡ i → connection_in n names (value_row t k) ≡ Some d → d ≡ c
      named k d same at = grind (arith, own_row)

      stored : bound_of (set values c (Some reported.value)) c ≡ Some reported.value
      stored = get_or-set_same values c (Some reported.value) None (omega (arith, there, so_far.as_many))

  -- row i has a fault
  pub fault_here : (fault : ProofFault) → i < row_count t → i < stated → ◌≡◌ {A = Result RowValue ProofFault} (Err fault) (reported_in n names (i + 2) last (value_row t i))
      → IsFirstLineFault n names t stated fault
  fault_here fault inside within is = record {
    i = i;
    within = omega (arith, inside, le-max_left (row_count t) stated);
    here = fault_is n names t stated i last (Err fault) within so_far.before is;
    first = so_far.faultless;
  }

  -- row i is missing, or one too many
  pub ends_here : i < max (row_count t) stated → (row_count t ≤ i) ⊎ (stated ≤ i) → IsFirstLineFault n names t stated (Row (i + 2))
  ends_here within ends = record {
    i = i;
    within = within;
    here = grind (arith, cases_lt, le-ltb, lt-ltb, get_or_past);
    first = so_far.faultless;
  }

  -- all rows
  pub read_all : max (row_count t) stated ≤ i → AreValuesReported n names t stated values
  read_all whole =
      let all : i ≡ row_count t = omega (arith, le-max_left (row_count t) stated, so_far.rows, whole) in
      record {
        faultless = λ k within. so_far.faultless k (omega (arith, within, whole));
        as_many = so_far.as_many;
        reported = λ k c within at. so_far.reported k c (omega (arith, all, within)) at;
        others = λ c never. so_far.others c (λ k less. never k (omega (arith, all, less)));
      }

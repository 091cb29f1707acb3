-- What was printed of a certificate is read back, and how its rows are printed one after another.
use Rattle.std.proofs.lemmas.Grind.{common_steps}
use Rattle.lower_proof.proofs.Common.{◌≡◌, ◌≢◌, ℕ, zero, suc, ◌+◌, ◌<◌, ◌≤◌, ◌^◌, true, List, [], ◌∷◌, length, Option, Some, None, Ok, Err, Result, arith, inl, inr, sym, ◌∙◌, ap, subst, refl}
use Rattle.lower_proof.proofs.Common.{◌++◌, drop, cond, is_some, codes, decimal, slice_index_or, count_by, option_map, ext_get_or, append-nil, eq-eqb, lt-ltb, le-leb, IfOk, OnOk, result_err}
use Rattle.lower_proof.proofs.Common.{max-le, sum_by-cons, drop_all, cases_eq, last_printable, table_of, Query, NetworkModel, NameLists, NamesFit, AreNames, IsValid, count, step_of, rises}
use Rattle.lower_proof.proofs.Common.{row_of_fields, text_of_records, text_step, split_at, LowerBounds, BoundsRow, ValueRow, ProofFault, bound_of, bounds_record, value_record, value_records}
use Rattle.lower_proof.proofs.Common.{certificate_text, entry_text, bounds_in, value_row_in, connection_in, nanos_in, reported_in, value_row, connection_before, value_fault, AreValuesReported}
use Rattle.lower_proof.proofs.Common.{IsProofReported, IsProofRead, IsReadBack, AllFit}
use Rattle.clock_text.proofs.{Walk.text_reports, NanosLemmas.nanos_report}
use Rattle.printed_rows.proofs.{Found.connection_back, Plain.{moment_kept, nanos_kept, decimal_kept, whole_back}, Names.{place_kept, run_kept, place_back, run_back, step_kept, step_back}}
use Rattle.printed_rows.proofs.Printed.{IsKept, AreKept, seven_kept, four_kept, table_back}

-- two facts of one result
pub IfOk-with : {T E : Type 0} (r : Result T E) (P Q : T → Type 0) (R : Type 0) → ((x : T) → P x → R → Q x) → IfOk r P → OnOk r R → IfOk r Q
IfOk-with r P Q R both p h1 = grind arith

same_query : (a b : Query) → a.source.0 ≡ b.source.0 → a.target.0 ≡ b.target.0 → a.start.0 ≡ b.start.0 → a.deadline ≡ b.deadline → a ≡ b
same_query a b s t u d = λ i. record { source = record { 0 = s i }; target = record { 0 = t i }; start = record { 0 = u i }; deadline = d i }

count_more : (x : Option ℕ) (values : List (Option ℕ)) → count_by is_some (x ∷ values) ≡ cond (is_some x) 1 0 + count_by is_some values
count_more x values = sum_by-cons (λ (y : Option ℕ). cond (is_some y) 1 0) x values

-- as many rows as values that are there
rows_many : (n : NetworkModel) (names : NameLists) (c : ℕ) (values : List (Option ℕ)) → length (value_records n names c values) ≡ count_by is_some values
rows_many n names c [] = refl
rows_many n names c (None ∷ values) = omega (arith, count_more None values, rows_many n names (c + 1) values)
rows_many n names c (Some v ∷ values) = omega (arith, count_more (Some v) values, rows_many n names (c + 1) values)

pub present : (values : List (Option ℕ)) (c v : ℕ) → bound_of values c ≡ Some v → c < length values
present [] c v is = absurd (cc)
present (x ∷ values) zero v is = omega arith
present (x ∷ values) (suc c) v is = omega (arith, present values c v is)

-- the offset of row k
abbrev offset_at : List (Option ℕ) → ℕ → ℕ
offset_at [] k = 0
offset_at (None ∷ values) k = suc (offset_at values k)
offset_at (Some v ∷ values) zero = 0
offset_at (Some v ∷ values) (suc k) = suc (offset_at values k)

module _ (n : NetworkModel) (names : NameLists) where
  shifted : (c offset v : ℕ) → value_record n names (c + 1 + offset) v ≡ value_record n names (c + suc offset) v
  shifted c offset v = let e : c + 1 + offset ≡ c + suc offset = omega arith in ap (λ (d : ℕ). value_record n names d v) e

  -- row k is of the connection at this offset, and of its value
  row_at : (c : ℕ) (values : List (Option ℕ)) (k : ℕ) → k < length (value_records n names c values) → (v : ℕ) × (offset_at values k < length values)
      × (bound_of values (offset_at values k) ≡ Some v) × (slice_index_or (value_records n names c values) k [] ≡ value_record n names
      (c + offset_at values k) v)
  row_at c [] k within = absurd (omega (arith, within))
  row_at c (None ∷ values) k within = grind (arith, shifted, offset_at, row_at (c + 1) values k within)
  row_at c (Some w ∷ values) zero within = grind arith
  row_at c (Some w ∷ values) (suc k) within = grind (arith, shifted, offset_at, row_at (c + 1) values k (omega (arith, within)))

  -- offsets rise
  offsets_rise : (c : ℕ) (values : List (Option ℕ)) (k : ℕ) → suc k < length (value_records n names c values) → offset_at values k < offset_at values (suc k)
  offsets_rise c [] k within = absurd (omega (arith, within))
  offsets_rise c (None ∷ values) k within = omega (arith, offsets_rise (c + 1) values k within)
  offsets_rise c (Some w ∷ values) zero within = omega arith
  offsets_rise c (Some w ∷ values) (suc k) within = omega (arith, offsets_rise (c + 1) values k (omega (arith, within)))

  -- each value that is there has a row
  row_of_value : (c : ℕ) (values : List (Option ℕ)) (offset v : ℕ) → bound_of values offset ≡ Some v
      → (k : ℕ) × (k < length (value_records n names c values)) × (slice_index_or (value_records n names c values) k [] ≡ value_record n names (c + offset) v)
  row_of_value c (None ∷ values) (suc offset) v is = grind (arith, shifted, row_of_value (c + 1) values offset v is)
  row_of_value c (Some w ∷ values) zero v is = grind arith
  row_of_value c (Some w ∷ values) (suc offset) v is =
      let own = row_of_value (c + 1) values offset v is in (suc own.0, omega (arith, own.1), own.2 ∙ shifted c offset v)
  row_of_value c _ _ v is = absurd (cc)

module _ (n : NetworkModel) (names : NameLists) (valid : IsValid n) (fit : NamesFit names n) (own : AreNames names) where
  -- ---- a value row

  record_kept : (c v : ℕ) → c < count n → IsKept (value_record n names c v)
  record_kept c v there = grind (arith, four_kept, codes, decimal, run_kept, step_kept, nanos_kept)

  records_kept : (c : ℕ) (values : List (Option ℕ)) → c + length values ≤ count n → AreKept (value_records n names c values)
  records_kept c [] within = tt
  records_kept c (None ∷ values) within = records_kept (c + 1) values (omega (arith, within))
  records_kept c (Some v ∷ values) within = (record_kept c v (omega (arith, within)), records_kept (c + 1) values (omega (arith, within)))

  abbrev numbers : ℕ → ℕ → ValueRow
  numbers c v = record { step = step_of n c; value = v }

  numbers_back : (c v : ℕ) → c < count n → v < 2 ^ 64 → value_row_in (value_record n names c v) ≡ Some (numbers c v)
  numbers_back c v there small = rw (step_back n valid c there, nanos_report v small) refl

  value_back : (c v : ℕ) → c < count n → v < 2 ^ 64 → nanos_in (value_record n names c v) ≡ Some v
  value_back c v there small = ap (option_map (λ (x : ValueRow). x.value)) (numbers_back c v there small)

  named_back : (c v : ℕ) → c < count n → v < 2 ^ 64 → connection_in n names (value_record n names c v) ≡ Some c
  named_back c v there small = rw (numbers_back c v there small, run_back n names fit own c there) (connection_back n valid c there)

  reported_back : (c v line : ℕ) (before : Option ℕ) → c < count n → v < 2 ^ 64 → rises before c ≡ true
      → reported_in n names line before (value_record n names c v) ≡ Ok (record { id = record { 0 = c }; value = v })
  reported_back c v line before there small rise = rw (numbers_back c v there small, run_back n names fit own c there, connection_back n valid c there, rise) refl

  -- ---- all of them, after a first row

  module _ (first : List (List ℕ)) (values : List (Option ℕ)) (as_many : length values ≡ count n) (small : (c v : ℕ) → bound_of values c ≡ Some v → v < 2 ^ 64) where
    abbrev rows : List (List (List ℕ))
    rows = value_records n names 0 values

    abbrev table : List (List (List ℕ))
    table = first ∷ rows

    row_is : (i : ℕ) → value_row table i ≡ slice_index_or rows i []
    row_is i = let e : i + 1 ≡ suc i = omega arith in ap (λ (k : ℕ). slice_index_or table k []) e

    row_reported : (i : ℕ) → i < length rows
        → (v : ℕ) × (offset_at values i < count n) × (bound_of values (offset_at values i) ≡ Some v) ×
        (value_row table i ≡ value_record n names (offset_at values i) v)
    row_reported i within =
        let (v, inside, value, row) = row_at n names 0 values i within in
        grind (arith, row_is)

    row_connection : (i : ℕ) → i < length rows → connection_in n names (value_row table i) ≡ Some (offset_at values i)
    row_connection i within =
        let r = row_reported i within in
        ap (connection_in n names) r.3 ∙ named_back (offset_at values i) r.0 r.1 (small (offset_at values i) r.0 r.2)

    row_rises : (i : ℕ) → i < length rows → rises (connection_before n names table i) (offset_at values i) ≡ true
    row_rises i within = grind (arith, row_connection, lt-ltb, offsets_rise)

    row_faultless : (stated i : ℕ) → i < stated → i < length rows → value_fault n names table stated i ≡ None
    row_faultless stated i inside within =
        let r = row_reported i within in
        let c = offset_at values i in
        rw (lt-ltb i stated inside, r.3) (ap result_err (reported_back c r.0 (i + 2) (connection_before n names table i) r.1 (small c r.0 r.2)
        (row_rises i within)))

    -- each value that is there has its row
    row_for : (c v : ℕ) → bound_of values c ≡ Some v → (i : ℕ) × (i < length rows) × (value_row table i ≡ value_record n names c v)
    row_for c v is =
        let at = row_of_value n names 0 values c v is in
        grind (arith, row_is)

    never_reported : (c : ℕ) → ((i : ℕ) → i < length rows → connection_in n names (value_row table i) ≢ Some c) → (own_value : Option ℕ) → bound_of values c ≡ own_value → own_value ≡ None
    never_reported c never own_value is = grind (arith, row_for, named_back, present)

    -- and no other values are given
    only : (stated : ℕ) (others : List (Option ℕ)) → AreValuesReported n names table stated others → others ≡ values
    only stated others reported = ext_get_or None others values (reported.as_many ∙ sym as_many) (λ c within. same c (bound_of values c) refl)
      where
        same : (c : ℕ) (x : Option ℕ) → bound_of values c ≡ x → bound_of others c ≡ bound_of values c
        same c (Some v) is =
            let at = row_for c v is in
            let there : c < count n = omega (arith, as_many, present values c v is) in
            reported.reported at.0 c (omega (arith, at.1)) (ap (connection_in n names) at.2 ∙ named_back c v there (small c v is))
            ∙ ap nanos_in at.2 ∙ value_back c v there (small c v is) ∙ sym is
        same c None is =
            reported.others c (λ i inside at.
            let within : i < length rows = omega (arith, inside) in
            let r = row_reported i within in
            let both : ◌≡◌ {A = Option ℕ} (Some (offset_at values i)) (Some c) = sym (row_connection i within) ∙ at in
            let here : offset_at values i ≡ c = cc in
            let some : ◌≡◌ {A = Option ℕ} (Some r.0) None = sym r.2 ∙ ap (bound_of values) here ∙ is in
            cc)
            ∙ sym is

    all_reported : AreValuesReported n names table (count_by is_some values) values
    all_reported =
        let many : length rows ≡ count_by is_some values = rows_many n names 0 values in
        record {
          faultless = λ i within. grind (arith, max-le, row_faultless);
          as_many = as_many;
          reported = λ i c within at.
              let inside : i < length rows = omega (arith, within) in
              let r = row_reported i inside in
              let both : ◌≡◌ {A = Option ℕ} (Some (offset_at values i)) (Some c) = sym (row_connection i inside) ∙ at in
              let same : offset_at values i ≡ c = cc in
              ap (bound_of values) (sym same) ∙ r.2 ∙ sym (ap nanos_in r.3 ∙ value_back (offset_at values i) r.0 r.1 (small (offset_at values i) r.0 r.2));
          others = λ c never. never_reported c (λ i within. never i (omega (arith, within))) (bound_of values c) refl;
        }

  -- ---- the first row

  module _ (q : Query) (values : List (Option ℕ)) (source : q.source.0 < length n.change) (target : q.target.0 < length n.change)
      (start : q.start.0 ≤ last_printable) (deadline : q.deadline.0 ≤ last_printable) (in_time : q.start.0 ≤ q.deadline.0) (few : count_by is_some values ≤ 999999999) where
    bounds_kept : IsKept (bounds_record names q values)
    bounds_kept = grind (arith, seven_kept, place_kept, moment_kept, decimal_kept)

    abbrev bounds : BoundsRow
    bounds = record { start = q.start; deadline = q.deadline; number = count_by is_some values }

    bounds_back : bounds_in names q.source.0 q.target.0 q.start.0 (bounds_record names q values) ≡ Ok bounds
    bounds_back = grind (arith, text_reports, whole_back, le-leb, place_back, eq-eqb)

    table_is : length values ≡ count n → table_of (certificate_text n names q values) ≡ bounds_record names q values ∷ value_records n names 0 values
    unfolding row_of_fields
    table_is as_many =
        table_back (bounds_record names q values ∷ value_records n names 0 values) 98 _ (bounds_kept, records_kept 0 values (omega (arith, as_many))) refl refl

    -- whatever is read of the text is what was printed
    pub reads_back : length values ≡ count n → ((c v : ℕ) → bound_of values c ≡ Some v → v < 2 ^ 64)
        → (result : Result (Query × LowerBounds) ProofFault) → IsProofRead n names q.source.0 q.target.0 q.start.0 (certificate_text n names q values) result → IsReadBack q values result
    reads_back as_many small (Ok read) is =
        reported_once read.0 read.1.values (subst (λ (t : List (List (List ℕ))). IsProofReported n names q.source.0 q.target.0 q.start.0 t read.0 read.1.values) (table_is as_many) is)
      where
        reported_once : (other : Query) (others : List (Option ℕ)) → IsProofReported n names q.source.0 q.target.0 q.start.0 (bounds_record names q values ∷ value_records n names 0 values) other others
            → (other ≡ q) × (others ≡ values)
        reported_once other others reported =
            let both : ◌≡◌ {A = Result BoundsRow ProofFault} (Ok reported.bounds) (Ok bounds) = sym reported.head ∙ bounds_back in
            let same : ◌≡◌ {A = BoundsRow} reported.bounds bounds = cc in (
              same_query other q reported.from reported.to reported.since (reported.until ∙ ap (λ (b : BoundsRow). b.deadline) same),
              only (bounds_record names q values) values as_many small reported.bounds.number others reported.reported,
            )
    reads_back as_many small (Err fault) (inl none) = none
    reads_back as_many small (Err fault) (inr first) =
        let late = rw (table_is as_many, bounds_back) at first in
        let none = (all_reported (bounds_record names q values) values as_many small).faultless late.i late.within in
        let both : ◌≡◌ {A = Option ProofFault} (Some fault) None = sym late.here ∙ none in
        absurd (cc)

-- ---- the rows of values, one after another

one_more : (n : NetworkModel) (names : NameLists) (c : ℕ) (x : Option ℕ) (values : List (Option ℕ))
    → entry_text n names c x ++ text_of_records (value_records n names (c + 1) values) ≡ text_of_records (value_records n names c (x ∷ values))
one_more n names c x values = grind arith

-- after one entry more
pub values_step : (n : NetworkModel) (names : NameLists) (values : List (Option ℕ)) (i : ℕ) (new old all : List ℕ) → i < length values
    → new ≡ old ++ entry_text n names i (slice_index_or values i None) → old ++ text_of_records (value_records n names i (drop i values)) ≡ all
    → new ++ text_of_records (value_records n names (i + 1) (drop (i + 1) values)) ≡ all
values_step n names values i new old all within is before = grind (arith, common_steps, text_step, one_more, split_at)

-- after the last one
pub values_done : (n : NetworkModel) (names : NameLists) (values : List (Option ℕ)) (i : ℕ) (new all : List ℕ) → length values ≤ i
    → new ++ text_of_records (value_records n names i (drop i values)) ≡ all → new ≡ all
values_done n names values i new all whole is = grind (arith, append-nil, drop_all)

-- one more fits
pub fit_more : (values : List (Option ℕ)) (i : ℕ) → AllFit i values → ((v : ℕ) → slice_index_or values i None ≡ Some v → v < 2 ^ 64) → AllFit (i + 1) values
fit_more values i before here = grind (arith, cases_eq)

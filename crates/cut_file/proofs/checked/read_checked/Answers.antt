-- The first fault of a table, by the step that finds it.
use Rattle.cut_file.proofs.Common.{◌∙◌, arith, Some, None, ◌≡◌, ℕ, ◌<◌, ◌≤◌, List, length, Option, slice_index_or, refl, sym, ap, subst, lt-ltb, le-ltb, option_or, first_below, row_count, CutRow}
use Rattle.cut_file.proofs.Common.{Key, CutFault, TooManyRows, missing_column, too_many_rows, bad_field, repeated_step, run_fault, first_cut_fault, row, AreCutColumns, missing_in, run_names}
use Rattle.cut_file.proofs.Common.{place_names, IsNumbered, AreCutKeys, IsCutRead}
use Rattle.cut_file.specs.declared.rows.Columns.{Columns}
use Rattle.csv_rows.proofs.FaultLemmas.{if_raised}
use Rattle.cut_file.proofs.checked.read_checked.Goals as goal

abbrev all_faults : Option CutFault → Option CutFault → Option CutFault → Option CutFault → Option CutFault
all_faults a b c d = option_or a (option_or b (option_or c d))

abbrev runs_of : List (List (List ℕ)) → Option CutFault
runs_of t = option_or (first_below (repeated_step t) (row_count t)) (first_below (run_fault t) (row_count t))

first_is : (t : List (List (List ℕ))) (limit : ℕ) → first_cut_fault t limit ≡ all_faults (missing_column t) (too_many_rows t limit) (first_below (bad_field t) (row_count t)) (runs_of t)
unfolding first_cut_fault
first_is t limit = refl

pub column_first : (t : List (List (List ℕ))) (limit : ℕ) (c : Columns) (f : CutFault) → AreCutColumns t c → Some f ≡ missing_in c → first_cut_fault t limit ≡ Some f
column_first t limit c f h e = grind (arith, first_is, all_faults, runs_of)

pub count_first : (t : List (List (List ℕ))) (limit : ℕ) (c : Columns) → AreCutColumns t c → None ≡ missing_in c → limit < row_count t → first_cut_fault t limit ≡ Some (TooManyRows (row_count t))
count_first t limit c h e l = grind (arith, first_is, all_faults, runs_of, lt-ltb)

-- with its columns, and few enough rows
pub rows_first : (t : List (List (List ℕ))) (limit : ℕ) (c : Columns) → AreCutColumns t c → None ≡ missing_in c → row_count t ≤ limit
    → first_cut_fault t limit ≡ option_or (first_below (bad_field t) (row_count t)) (runs_of t)
rows_first t limit c h e l = grind (arith, first_is, all_faults, runs_of, le-ltb)

pub field_first : (t : List (List (List ℕ))) (o : Option CutFault) (f : CutFault) → first_below (bad_field t) (row_count t) ≡ Some f → option_or (first_below (bad_field t) (row_count t)) o ≡ Some f
field_first t o f h = ap (λ a. option_or a o) h

-- the faults of the runs, in rows that are read, by the slices that were lent
pub runs_here : (t : List (List (List ℕ))) (runs places : List (List ℕ)) (rows rows' : List CutRow) (keys keys' : List Key) (o : Option CutFault) → rows' ≡ rows → keys' ≡ keys
    → IsCutRead t runs places rows keys → first_below (bad_field t) (row_count t) ≡ None
    → ((t : List (List (List ℕ))) (runs places : List (List ℕ)) → IsCutRead t runs places rows' keys' → runs_of t ≡ o)
    → option_or (first_below (bad_field t) (row_count t)) (runs_of t) ≡ o
runs_here t runs places rows rows' keys keys' o e f h none reported =
    ap (λ a. option_or a (runs_of t)) none
    ∙ reported t runs places (subst (λ (x : List CutRow). IsCutRead t runs places x keys') (sym e) (subst (λ (x : List Key). IsCutRead t runs places rows x) (sym f) h))

pub read_here : (t : List (List (List ℕ))) (runs places : List (List ℕ)) (rows rows' : List CutRow) (keys : List Key) → runs ≡ run_names t (row_count t) → places ≡ place_names t (row_count t)
    → length rows ≡ row_count t → ((k : ℕ) (d : CutRow) → k < row_count t → IsNumbered runs places (row t k) (slice_index_or rows k d)) → rows' ≡ rows
    → length keys ≡ length rows' → AreCutKeys rows' keys
    → IsCutRead t runs places rows keys
read_here t runs places rows rows' keys a b size each e count s = grind arith

pub returns-in-Some-clause-fault : goal.returns-in-Some-clause-fault
returns-in-Some-clause-fault c = λ free.
    column_first c.args.rows.now c.args.limits.now.cut_rows c.columns_of-columns.result c.in-Some.fault c.columns_of-columns.ensures c.in-Some.ensures

pub returns-then-limits-count-clause-fault : goal.returns-then-limits-count-clause-fault
returns-then-limits-count-clause-fault c = λ free. grind (arith, count_first)

pub returns-in_err-cut-clause-fault : goal.returns-in_err-cut-clause-fault
returns-in_err-cut-clause-fault c = grind (arith, if_raised, rows_first, field_first)

pub returns-in-Some-run_fault-clause-fault : goal.returns-in-Some-run_fault-clause-fault
returns-in-Some-run_fault-clause-fault c = λ free.
    let t = c.args.rows.now in
    let cut = c.in_ok-cut.cut in
    let e = c.in_ok-cut.ensures in
    rows_first t c.args.limits.now.cut_rows c.columns_of-columns.result c.columns_of-columns.ensures c.in_default.ensures (omega arith)
    ∙ runs_here t cut.names.runs cut.names.places cut.rows.items c.as_slice-2.result.now c.in_ok-keys.keys.items c.as_slice-3.result.now
    (Some c.in-Some-run_fault.fault) c.as_slice-2.ensures.value c.as_slice-3.ensures.value
    (read_here t cut.names.runs cut.names.places cut.rows.items c.as_slice.result.now c.in_ok-keys.keys.items e.runs e.places e.size e.each
    c.as_slice.ensures.value c.in_ok-keys.ensures.size c.in_ok-keys.ensures.sorted)
    e.none (λ t runs places read. c.run_fault.ensures t runs places read ∙ c.in-Some-run_fault.is)

pub returns-in-None-clause-none : goal.returns-in-None-clause-none
returns-in-None-clause-none c =
    let t = c.args.rows.now in
    let cut = c.in_ok-cut.cut in
    let e = c.in_ok-cut.ensures in
    rows_first t c.args.limits.now.cut_rows c.columns_of-columns.result c.columns_of-columns.ensures c.in_default.ensures (omega arith)
    ∙ runs_here t cut.names.runs cut.names.places cut.rows.items c.as_slice-2.result.now c.in_ok-keys.keys.items c.as_slice-3.result.now None
    c.as_slice-2.ensures.value c.as_slice-3.ensures.value
    (read_here t cut.names.runs cut.names.places cut.rows.items c.as_slice.result.now c.in_ok-keys.keys.items e.runs e.places e.size e.each
    c.as_slice.ensures.value c.in_ok-keys.ensures.size c.in_ok-keys.ensures.sorted)
    e.none (λ t runs places read. c.run_fault.ensures t runs places read ∙ c.in-None.is)

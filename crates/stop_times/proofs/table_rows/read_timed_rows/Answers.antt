use Rattle.stop_times.proofs.Common.{rules, ◌≡◌, ◌<◌, ◌∷◌, ◌∙◌, List, ℕ, None, Some, sym, ap, subst, arith, length, Err, StopTimes, first_below, loaded_from, row_count, table_of, stop_times_from}
use Rattle.stop_times.proofs.{Common.{bad_time, counted_fault, missing_time_column, named_of, order_fault, stop_times_fault, time_columns, timed_rows}, TimeLemmas.{counted_same, times_fault}}
use Rattle.stop_times.proofs.TimeLemmas.{fault_of_header, fault_of_row, fault_of_order}
use Rattle.std.proofs.lemmas.Result.{IfErr-weaker, on_ok_weaker}
use Rattle.stop_times.proofs.table_rows.read_timed_rows.Goals as goal

pub returns-in-Some-clause-fault : goal.returns-in-Some-clause-fault
returns-in-Some-clause-fault c = λ free.
    let named = named_of c.args.named.now in
    let t = c.next.new.fields ∷ c.next.new.self in
    let all : t ≡ table_of c.args.bytes.now = sym (sym c.of-records.ensures ∙ c.in_ok-found.ensures.some c.if-not-found.false) in
    let first : stop_times_fault named t ≡ Some c.in-Some.fault
    = fault_of_header named t c.in-Some.fault (sym (ap missing_time_column c.columns_of-columns.ensures) ∙ sym c.in-Some.ensures.fault) in
    grind (arith, times_fault)

pub returns : goal.returns
returns c =
    let named = named_of c.args.named.now in
    let t = c.next.new.fields ∷ c.next.new.self in
    let all : t ≡ table_of c.args.bytes.now = sym (sym c.of-records.ensures ∙ c.in_ok-found.ensures.some c.if-not-found.false) in
    let whole : missing_time_column (time_columns t) ≡ None = sym (ap missing_time_column c.columns_of-columns.ensures) ∙ sym c.in_default.ensures.fault in
    let count : row_count t ≡ length c.next.new.self = omega arith in
    let some : 0 < length t = omega arith in
    let P : List (List (List ℕ)) → Type 0 = λ x. stop_times_fault named x ≡ order_fault (timed_rows named x) in
    record {
      rows = search rules;
      few = c.rows_after.ensures.few;
      header = search rules;
      rest = on_ok_weaker c.rows_after.result
          (λ none. subst P all (fault_of_order named t whole (ap (first_below (bad_time named t)) count ∙ none))) c.rows_after.ensures.none;
      fault = IfErr-weaker c.rows_after.result _ _
          (λ f h free.
          let Q : List (List (List ℕ)) → Type 0 = λ x. stop_times_from (loaded_from StopTimes c.args.limits.now.stop_times x) named ≡ Err f in
          subst Q all (times_fault named c.args.limits.now.stop_times t f some
          (counted_same c.args.limits.now.stop_times (row_count t) (first_below (bad_time named t) (row_count t))
          (stop_times_fault named t) f (λ x e. fault_of_row named t x whole e)
          (ap (λ (k : ℕ). counted_fault c.args.limits.now.stop_times k (first_below (bad_time named t) k)) count ∙ h free))))
          c.rows_after.ensures.fault;
      content = c.rows_after.ensures.content;
      own = c.rows_after.ensures.own;
    }

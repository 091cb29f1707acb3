-- What the forms of the fields bound.
use Rattle.cut_file.proofs.Common.{◌≡◌, ℕ, ◌+◌, ◌<◌, ◌≤◌, Bool, true, ◌==◌, nat_lt, List, length, Option, Some, None, Result, Ok, IfSome, if◌then◌else◌, subst, arith, ltb-true, cases_Bool}
use Rattle.cut_file.proofs.Common.{Column, Class, Run, Step, From, To, Dep, Arr, Board, Exit, Change, same_Some, Row, row_from, row_at, bad_of, bad_field, row_of, row, field}
use Rattle.cut_file.specs.{CutRows.{before_end, moment_before_end, class_in, flag_in}, declared.lines.TheConstants.MOST_STEP}
use Rattle.clock_text.proofs.DigitLemmas.{whole_bound}
use Rattle.clock_text.specs.{Digits.{optional_seconds_of, whole_of}, Times.moment_at}
use Rattle.csv_rows.proofs.RowLemmas.{name_text, optional-each}
use Rattle.csv_rows.specs.Ids.{name_in}
use Rattle.plan_model.specs.Bounds.{end_of_arrivals}
use Rattle.plan_model.proofs.Results.{require-each}

-- what the fields of a row in form say of it
pub record InForm (run from to : List ℕ) (r : Row) : Type 0 where
  pub run_name : r.run ≡ run
  pub from_name : r.from ≡ from
  pub to_name : r.to ≡ to
  pub step : r.step < 1000000000
  pub arr : r.arr < end_of_arrivals
  pub change : IfSome r.change (λ s. s ≤ 86400)

end_if : (b : Bool) (m n : ℕ) → (b ≡ true → m < end_of_arrivals) → (if b then Some m else None) ≡ Some n → n < end_of_arrivals
end_if b m n h e = grind (arith, cases_Bool b, same_Some)

-- a moment before the end
end_bound : (o : Option ℕ) (n : ℕ) → before_end o ≡ Some n → n < end_of_arrivals
end_bound o n e = grind (arith, end_if, nat_lt, ltb-true)

same_ok : (x r : Row) → ◌≡◌ {A = Result Row Column} (Ok x) (Ok r) → x ≡ r
same_ok x r e = cc

pub row_form : (a b c d e f g h j k : List ℕ) (r : Row) → row_from a b c d e f g h j k ≡ Ok r → InForm a c d r
row_form a b c d e f g h j k =
    require-each (InForm a c d) (name_in a) Run _ (λ run p1.
    require-each (InForm a c d) (whole_of MOST_STEP b) Step _ (λ step p2.
    require-each (InForm a c d) (name_in c) From _ (λ from p3.
    require-each (InForm a c d) (name_in d) To _ (λ to p4.
    require-each (InForm a c d) (moment_before_end e) Dep _ (λ dep p5.
    require-each (InForm a c d) (moment_before_end f) Arr _ (λ arr p6.
    require-each (InForm a c d) (class_in g) Class _ (λ class p7.
    require-each (InForm a c d) (flag_in h) Board _ (λ board p8.
    require-each (InForm a c d) (flag_in j) Exit _ (λ exit p9.
    require-each (InForm a c d) (optional_seconds_of k) Change _ (λ change p10 r q.
    subst (InForm a c d) (same_ok _ r q) (record {
      run_name = name_text a run p1;
      from_name = name_text c from p3;
      to_name = name_text d to p4;
      step = omega (arith, whole_bound MOST_STEP step b p2);
      arr = end_bound (moment_at f) arr p6;
      change = optional-each (λ s. s ≤ 86400) (length k == 0) (whole_of 86400 k) (λ s. whole_bound 86400 s k) change p10;
    })))))))))))

ok_form : (P : Row → Type 0) (o : Result Row Column) (line : ℕ) → bad_of o line ≡ None → ((r : Row) → o ≡ Ok r → P r) → P (row_of o)
ok_form P o line h k = grind arith

-- a row with no bad field is in form
pub row_in_form : (t : List (List (List ℕ))) (i : ℕ) → bad_field t i ≡ None → InForm (field t Run i) (field t From i) (field t To i) (row t i)
unfolding row_at bad_field row
row_in_form t i h =
    ok_form (InForm (field t Run i) (field t From i) (field t To i)) (row_at t i) (i + 2) h
    (λ r e. row_form (field t Run i) (field t Step i) (field t From i) (field t To i) (field t Dep i) (field t Arr i) (field t Class i)
    (field t Board i) (field t Exit i) (field t Change i) r e)

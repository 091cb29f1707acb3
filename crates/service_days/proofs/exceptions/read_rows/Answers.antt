-- The rows of exceptions.
use Rattle.service_days.proofs.Common.{None, row_count, first_below, AreNumbered, sym, ap, subst, arith, ◌∙◌, result_err, match_raised, fault-at, first-zero, first-next, ServiceDate, bad_date, date_of, date_or_none, AddsDate}
use Rattle.service_days.proofs.Common.{◌≡◌, ℕ, ◌+◌, List, Ok, name_in, field_at, name_text, IsTrimmed, date_from, date_columns, date_in, date_at_row, require-ok}
use Rattle.service_days.proofs.NumberLemmas.{numbered_none, numbered_next, length-adds, trimmed-adds}
use Rattle.clock_text.specs.Times.{date_at}
use Rattle.csv_rows.specs.Spaces.{AreTrimmed}
use Rattle.csv_rows.proofs.SpaceLemmas.{IsTrimmed-field}
use Rattle.service_days.specs.declared.dates.DateColumns.{DateColumns}
use Rattle.service_days.proofs.exceptions.read_rows.Goals as goal

-- the row by the indexes of the columns
pub date_is : (t : List (List (List ℕ))) (c : DateColumns) (i : ℕ) → c ≡ date_columns t → date_at_row t i ≡ date_in t c i
unfolding date_at_row
date_is t c i e = ap (λ k. date_in t k i) (sym e)

-- the service of a row is its field
service_is : (line : ℕ) (service date kind : List ℕ) (d : ServiceDate) → date_from line service date kind ≡ Ok d → d.service ≡ service
service_is line service date kind d h =
    let a = require-ok (name_in service) _ _ d h in
    let b = require-ok (date_at date) _ _ d a.2 in
    grind (arith, require-ok, name_text)

-- and so it has no space at its ends
pub service_trimmed : (t : List (List (List ℕ))) (c : DateColumns) (i : ℕ) (d : ServiceDate) → AreTrimmed t → date_in t c i ≡ Ok d → IsTrimmed d.service
service_trimmed t c i d trimmed h =
    subst IsTrimmed (sym (service_is (i + 2) (field_at t c.service i) (field_at t c.date i) (field_at t c.kind i) d h)) (IsTrimmed-field t c.service i trimmed)

pub loop-i-init : goal.loop-i-init
loop-i-init c = grind (arith, first-zero, numbered_none)

pub returns-in_err-date-clause-reports : goal.returns-in_err-date-clause-reports
returns-in_err-date-clause-reports c = match_raised _ _ c.from_residual.result c.from_residual.ensures
    (fault-at _ c.loop-i.i _ (omega arith) c.loop-i.invariant.none
    (ap result_err (date_is c.args.rows.now _ c.loop-i.i c.date_columns-columns.ensures)) c.in_err-date.ensures.reports)

pub loop-i-preserved : goal.loop-i-preserved
loop-i-preserved c =
    let t = c.args.rows.now in
    let i = c.loop-i.i in
    let here = date_is t _ i c.date_columns-columns.ensures ∙ c.in_ok-date.ensures.exception in
    let old = c.loop-i.services in
    let new = c.add.new.services in
    let before = c.loop-i.exceptions.keys in
    let after = c.add.new.exceptions.keys in
    let P : ServiceDate → Type 0 = λ d. AddsDate old new before after d in
    let added = subst P (sym (ap date_or_none here)) c.in_ok-add.ensures in
    let service = c.in_ok-date.date.service.now in
    let size = length-adds old new (date_of t i).service added.new added.added in
    record {
      none = first-next (bad_date t) i None c.loop-i.invariant.none (ap result_err here);
      numbered = numbered_next t i c.args.services.now old new before after c.loop-i.invariant.numbered c.loop-i.invariant.room added;
      trimmed = trimmed-adds old new service c.in_ok-add.ensures.new c.in_ok-add.ensures.added c.loop-i.invariant.trimmed
          (service_trimmed t c.date_columns-columns.result i _ c.count-i-end.ensures.trimmed c.in_ok-date.ensures.exception);
      room = omega (arith, c.loop-i.invariant.room, size.0);
      few = omega (arith, c.loop-i.invariant.few, size.1);
    }

pub returns : goal.returns
returns c =
    let all : c.loop-i.i ≡ row_count c.args.rows.now = omega (arith, c.count-i-end.ensures.count) in
    record {
      numbered = subst (λ n. AreNumbered c.args.rows.now n c.args.services.now c.loop-i.services c.loop-i.exceptions.keys) all c.loop-i.invariant.numbered;
      trimmed = c.loop-i.invariant.trimmed;
      reports = sym (ap (first_below _) all) ∙ c.loop-i.invariant.none;
    }

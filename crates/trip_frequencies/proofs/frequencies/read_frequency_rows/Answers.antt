use Rattle.trip_frequencies.proofs.Common.{◌≡◌, List, ℕ, None, list_below, first_below, sym, ap, ◌∙◌, arith, value_or, first-zero, first-next, bad_frequency, frequency_at, frequency_in, no_frequency, list_below-zero}
use Rattle.trip_frequencies.proofs.{Common.list_below-next, FrequencyLemmas.frequency_is}
use Rattle.std.specs.Result.{result_err}
use Rattle.csv_rows.proofs.FaultLemmas.{match_raised, fault-at}
use Rattle.trip_frequencies.proofs.frequencies.read_frequency_rows.Goals as goal

pub loop-i-init : goal.loop-i-init
loop-i-init c = grind (arith, list_below-zero, first-zero)

pub returns-in_err-row-clause-reports : goal.returns-in_err-row-clause-reports
returns-in_err-row-clause-reports c = match_raised _ _ c.from_residual-in_err-row.result c.from_residual-in_err-row.ensures
    (fault-at _ c.loop-i.i _ (omega arith) c.loop-i.invariant.none
    (ap result_err (frequency_is c.args.trips.now c.args.rows.now _ c.loop-i.i c.frequency_columns-columns.ensures
    ∙ ap (λ (ids : List (List ℕ)). frequency_in ids c.args.rows.now c.frequency_columns-columns.result c.loop-i.i) (sym (c.in_ok-index.ensures ∙ c.texts.ensures))))
    c.in_err-row.ensures.reports)

pub loop-i-preserved : goal.loop-i-preserved
loop-i-preserved c =
    let t = c.args.rows.now in
    let trips = c.args.trips.now in
    let here = frequency_is trips t _ c.loop-i.i c.frequency_columns-columns.ensures
    ∙ ap (λ (ids : List (List ℕ)). frequency_in ids t c.frequency_columns-columns.result c.loop-i.i) (sym (c.in_ok-index.ensures ∙ c.texts.ensures)) ∙ c.in_ok-row.ensures.row in
    record {
      rows = list_below-next (λ i. value_or no_frequency (frequency_at trips t i)) c.loop-i.i c.loop-i.found.items c.push.new.self.items c.in_ok-row.row
          c.loop-i.invariant.rows c.in_ok-push.ensures.items (sym (ap (value_or no_frequency) here));
      none = first-next (bad_frequency trips t) c.loop-i.i None c.loop-i.invariant.none (ap result_err here);
    }

pub returns : goal.returns
returns c =
    let all : c.loop-i.i ≡ c.count-i-end.result = omega arith in
    let count = all ∙ c.count-i-end.ensures.count in
    record { rows = c.loop-i.invariant.rows ∙ ap (list_below _) count; reports = sym (ap (first_below _) count) ∙ c.loop-i.invariant.none }

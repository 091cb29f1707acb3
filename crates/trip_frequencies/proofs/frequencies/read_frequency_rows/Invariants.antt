use Rattle.trip_frequencies.proofs.Common.{◌≡◌, None, value_or, first_below, list_below, bad_frequency, frequency_at, no_frequency}
use Rattle.trip_frequencies.proofs.frequencies.read_frequency_rows.Given as goal

abbrev pub invariant-loop-i : goal.invariant-loop-i
invariant-loop-i l = record {
  rows : l.found.items ≡ list_below (λ i. value_or no_frequency (frequency_at l.trips l.rows i)) l.i;
  none : first_below (bad_frequency l.trips l.rows) l.i ≡ None;
}

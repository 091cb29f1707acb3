-- What is known of the first fault of a table from the steps that read it.
use Rattle.csv_rows.proofs.{FaultLemmas.{match_raised, fault-first, fault-then, reports-then}, RowLemmas.or_then, ListLemmas.{same_length, length-list_below}}

pub ruleset read_steps = (match_raised, fault-first, fault-then, reports-then, or_then, same_length, length-list_below)

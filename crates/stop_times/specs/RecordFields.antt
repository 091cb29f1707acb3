-- The fields of one record.
use Rattle.std.specs.Prelude.{ℕ, List, map}
use Rattle.csv.specs.Records.{fields_of}
use Rattle.csv_rows.specs.Spaces.{trimmed_text}
use Rattle.stop_times.specs.declared.records.Record.TheInside.{Inside}

-- with no ASCII space round each
abbrev pub record_of : Inside → List (List ℕ)
record_of r = map trimmed_text (fields_of r.row)

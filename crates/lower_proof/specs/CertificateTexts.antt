-- The text of a certificate.
use Rattle.std.specs.{Prelude.{ℕ, ◌+◌, List, [], ◌∷◌, Option, Some, None, is_some, codes, decimal}, List.count_by}
use Rattle.clock_text.specs.Civil.{moment_text, nanos_text}
use Rattle.plan_model.specs.{declared.model.Query.Query, Network.{NetworkModel, run_of, step_of}, NameLists.NameLists}
use Rattle.printed_rows.specs.Records.{place_name, run_name, row_of_fields, text_of_records}

-- the first row: kind, version, source, target, start, deadline, how many connections have a value
abbrev pub bounds_record : NameLists → Query → List (Option ℕ) → List (List ℕ)
bounds_record names query values =
    codes "bounds"
    ∷ codes "1"
    ∷ place_name names query.source.0
    ∷ place_name names query.target.0
    ∷ moment_text query.start.0
    ∷ moment_text query.deadline.0
    ∷ decimal (count_by is_some values)
    ∷ []

-- the row of a connection with a value: kind, run, step, value
abbrev pub value_record : NetworkModel → NameLists → ℕ → ℕ → List (List ℕ)
value_record network names c v = codes "value" ∷ run_name names (run_of network c) ∷ decimal (step_of network c) ∷ nanos_text v ∷ []

-- it is printed where there is a value
abbrev pub entry_text : NetworkModel → NameLists → ℕ → Option ℕ → List ℕ
entry_text network names c None = []
entry_text network names c (Some v) = row_of_fields (value_record network names c v)

-- one for each connection that has a value, from a connection on
abbrev pub value_records : NetworkModel → NameLists → ℕ → List (Option ℕ) → List (List (List ℕ))
value_records network names c [] = []
value_records network names c (None ∷ values) = value_records network names (c + 1) values
value_records network names c (Some v ∷ values) = value_record network names c v ∷ value_records network names (c + 1) values

-- the text of a certificate, with the query that it is for
abbrev pub certificate_text : NetworkModel → NameLists → Query → List (Option ℕ) → List ℕ
certificate_text network names query values = text_of_records (bounds_record names query values ∷ value_records network names 0 values)

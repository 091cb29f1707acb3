-- An insert as a walk along the rows.
use Rattle.stop_profile.proofs.Common.{List, [], ◌∷◌, nat_lt, ◌==◌, if◌then◌else◌, Scoring, Row, lower_row}

-- A row before the position is lowered to the new one where it is better, and else taken out, and the new row lowered to it.
-- The first row from the position on keeps the new row out where that is not better.
abbrev pub inserted_along : {V : Type 0} → Scoring V → Row V → List (Row V) → List (Row V)
inserted_along scoring new [] = new ∷ []
inserted_along scoring new (row ∷ rows) =
    if nat_lt row.by.0 new.by.0
    then (if nat_lt (scoring.rank row.value) (scoring.rank new.value)
    then lower_row scoring.lowered row new ∷ inserted_along scoring new rows
    else inserted_along scoring (lower_row scoring.lowered new row) rows)
    else (if nat_lt (scoring.rank new.value) (scoring.rank row.value)
    then lower_row scoring.lowered new row ∷ (if row.by.0 == new.by.0 then rows else row ∷ rows)
    else lower_row scoring.lowered row new ∷ rows)

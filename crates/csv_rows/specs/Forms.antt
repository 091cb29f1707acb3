-- The ways to write records.
use Rattle.std.specs.{Prelude.{◌≡◌, ◌≢◌, ◌⊎◌, ◌==◌, ◌||◌, ℕ, Bool, true, false, List, [], ◌∷◌, ◌++◌}, List.list_all}
use Rattle.csv.specs.{Machine.{carriage_return, line_feed}, Reading.strip_bom, Writing.{comma, default_writer, needs_quotes, quoted}}

-- whether a byte ends a line
abbrev pub is_line_end : ℕ → Bool
is_line_end b = (b == carriage_return) || (b == line_feed)

-- the text of a field: the field itself, if it has no comma, no double quote and no end of a line; or, of any field, double quotes round it,
-- and each that is in it twice
abbrev pub IsFieldText : List ℕ → List ℕ → Type 0
IsFieldText field text = ((text ≡ field) × (needs_quotes default_writer field ≡ false)) ⊎ (text ≡ quoted default_writer field)

-- the texts of fields, each after a comma
abbrev pub AreFieldTexts : List (List ℕ) → List ℕ → Type 0
AreFieldTexts [] text = text ≡ []
AreFieldTexts (field ∷ others) text = (own more : List ℕ) × (text ≡ comma ∷ (own ++ more)) × IsFieldText field own × AreFieldTexts others more

-- the text of a record: those of its fields, with commas between them
abbrev pub IsRecordText : List (List ℕ) → List ℕ → Type 0
IsRecordText [] text = ⊥
IsRecordText (field ∷ others) text = (own more : List ℕ) × (text ≡ own ++ more) × IsFieldText field own × AreFieldTexts others more

-- the line ends here, or the text does
abbrev pub IsAtLineEnd : List ℕ → Type 0
IsAtLineEnd [] = Unit {0}
IsAtLineEnd (b ∷ rest) = is_line_end b ≡ true

-- each record in a line that is not blank; a line ends with LF, CR or both, the last one maybe with none, and there may be blank lines
abbrev pub AreLines : List (List (List ℕ)) → List ℕ → Type 0
AreLines [] text = list_all is_line_end text ≡ true
AreLines (row ∷ rows) text =
    (blank line rest : List ℕ) × (text ≡ blank ++ (line ++ rest)) × (list_all is_line_end blank ≡ true)
    × IsRecordText row line × (line ≢ []) × IsAtLineEnd rest × AreLines rows rest

-- these are the records of a text, in some form: with a byte-order mark at its start or with none, and then their lines
abbrev pub IsTextOf : List (List (List ℕ)) → List ℕ → Type 0
IsTextOf rows text = AreLines rows (strip_bom text)

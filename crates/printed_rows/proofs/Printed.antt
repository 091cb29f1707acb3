-- The records of a printed text.
use Rattle.printed_rows.proofs.Common.{◌≡◌, ℕ, zero, suc, ◌+◌, ◌≤◌, ◌==◌, false, List, [], ◌∷◌, ◌++◌, length, map, arith, refl, sym, ap, ◌∙◌, length-append, trimmed_text, row_of_fields}
use Rattle.printed_rows.proofs.Common.{text_of_records}
use Rattle.csv.specs.{Machine.next_record, Reading.{default_config, records_from, strip_bom}, Writing.{default_writer, row_text, row_body, read_back}}
use Rattle.csv.proofs.RoundTrip.{read-write, rows_text as text_of_rows}
use Rattle.csv_rows.specs.Tables.{table_of}
use Rattle.csv.specs.declared.parser.State.TheVariants as st

-- each record's text has a byte
last_byte : (front mid : List ℕ) → 1 ≤ length (front ++ (mid ++ 10 ∷ []))
last_byte front mid = simp length-append (omega arith)

row_some : (row : List (List ℕ)) → 1 ≤ length (row_text default_writer row)
row_some row = last_byte (row_body default_writer row) _

few_rows : (rows : List (List (List ℕ))) → length rows ≤ length (text_of_rows rows)
unfolding text_of_rows
few_rows [] = omega arith
few_rows (row ∷ rows) = omega (arith, row_some row, few_rows rows, length-append (row_text default_writer row) (text_of_rows rows))

-- what is printed are these records
records_in : (rows : List (List (List ℕ))) (turns : ℕ) → length rows ≤ turns → records_from default_config turns st.StartRecord (text_of_rows rows) ≡ map read_back rows
unfolding records_from text_of_rows next_record
records_in [] zero enough = refl
records_in [] (suc turns) enough = refl
records_in (row ∷ rows) zero enough = absurd (omega (arith, enough))
records_in (row ∷ rows) (suc turns) enough =
    rw (read-write row (text_of_rows rows)) (ap (λ (rest : List (List (List ℕ))). read_back row ∷ rest) (records_in rows turns (omega (arith, enough))))

-- a record has a field, and no space is at an end of one
abbrev pub IsKept : List (List ℕ) → Type 0
IsKept row = map trimmed_text (read_back row) ≡ row

abbrev pub AreKept : List (List (List ℕ)) → Type 0
AreKept [] = Unit {0}
AreKept (row ∷ rows) = IsKept row × AreKept rows

pub kept-append : (rows more : List (List (List ℕ))) → AreKept rows → AreKept more → AreKept (rows ++ more)
kept-append [] more kept other = other
kept-append (row ∷ rows) more kept other = (kept.0, kept-append rows more kept.1 other)

kept_back : (rows : List (List (List ℕ))) → AreKept rows → map (λ row. map trimmed_text row) (map read_back rows) ≡ rows
kept_back [] kept = refl
kept_back (row ∷ rows) kept =
    ap (λ (first : List (List ℕ)). first ∷ map (λ r. map trimmed_text r) (map read_back rows)) kept.0
    ∙ ap (λ (rest : List (List (List ℕ))). row ∷ rest) (kept_back rows kept.1)

-- a text that begins with another byte begins with no byte-order mark
no_mark : (b : ℕ) (rest : List ℕ) → (b == 239) ≡ false → strip_bom (b ∷ rest) ≡ b ∷ rest
unfolding strip_bom
no_mark b [] other = refl
no_mark b (c ∷ []) other = refl
no_mark b (c ∷ d ∷ rest) other = rw other refl

-- the text of records is that of the writer
as_written : (rows : List (List (List ℕ))) → text_of_records rows ≡ text_of_rows rows
unfolding text_of_rows row_of_fields
as_written [] = refl
as_written (row ∷ rows) = ap (λ (text : List ℕ). row_of_fields row ++ text) (as_written rows)

-- so it is read as its records
pub table_back : (rows : List (List (List ℕ))) (b : ℕ) (rest : List ℕ) → AreKept rows → text_of_records rows ≡ b ∷ rest → (b == 239) ≡ false
    → table_of (text_of_records rows) ≡ rows
table_back rows b rest kept begins other =
    let same = as_written rows in
    let plain : strip_bom (text_of_records rows) ≡ text_of_rows rows = ap strip_bom begins ∙ no_mark b rest other ∙ sym begins ∙ same in
    ap (λ (text : List ℕ). map (λ row. map trimmed_text row) (records_from default_config (length text + 1) st.StartRecord text)) plain
    ∙ ap (λ (raw : List (List (List ℕ))). map (λ row. map trimmed_text row) raw) (records_in rows (length (text_of_rows rows) + 1) (omega (arith, few_rows rows)))
    ∙ kept_back rows kept

-- rows of seven and of four fields
pub seven_kept : (a b c d e f g : List ℕ) → trimmed_text a ≡ a → trimmed_text b ≡ b → trimmed_text c ≡ c → trimmed_text d ≡ d → trimmed_text e ≡ e → trimmed_text f ≡ f → trimmed_text g ≡ g
    → IsKept (a ∷ b ∷ c ∷ d ∷ e ∷ f ∷ g ∷ [])
seven_kept a b c d e f g one two three four five six seven = cc

pub four_kept : (a b c d : List ℕ) → trimmed_text a ≡ a → trimmed_text b ≡ b → trimmed_text c ≡ c → trimmed_text d ≡ d → IsKept (a ∷ b ∷ c ∷ d ∷ [])
four_kept a b c d one two three four = cc

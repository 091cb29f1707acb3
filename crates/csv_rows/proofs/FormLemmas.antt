-- Whatever the form in which records are written, they are read.
use Rattle.csv_rows.proofs.Common.{◌≡◌, ◌≢◌, ◌⊎◌, ℕ, Bool, true, false, List, [], ◌∷◌, ◌++◌, Some, None, refl, sym, ap, subst, ◌∙◌, ◌==◌, ◌||◌, map, append_assoc, cases_Bool, arith, and_parts}
use Rattle.csv_rows.proofs.{Common.{eqb-true, false_from_ne_true, list_any, trimmed_text, table_of, Reached, default_config, strip_bom}, ReachedRecords.all_records}
use Rattle.csv_rows.specs.Forms.{is_line_end, IsFieldText, AreFieldTexts, IsRecordText, IsAtLineEnd, AreLines, IsTextOf}
use Rattle.std.specs.List.{list_all}
use Rattle.csv.specs.{Machine.{Read, next_record, after_end}, Reading.AreRecords, Writing.{default_writer, escaped, needs_byte}, declared.parser.State.State}
use Rattle.csv.proofs.RoundTrip.{plain-run, quoted-run, after-quote-same, start-same, record-same}
use Rattle.csv.specs.declared.parser.State.TheVariants as st
use Rattle.csv.specs.declared.parser.Terminator.TheVariants as term

or_parts : (a b : Bool) → (a || b) ≡ false → (a ≡ false) × (b ≡ false)
or_parts a b none = grind arith

-- a byte of a field that calls for no quotes
plain_byte : (b : ℕ) → needs_byte default_writer b ≡ false → ((b == 34) ≡ false) × ((b == 13) ≡ false) × ((b == 10) ≡ false)
plain_byte b plain = grind (arith, false_from_ne_true)

-- the two ends of a line
one_end : (b : ℕ) → is_line_end b ≡ true → (b ≡ 13) ⊎ (b ≡ 10)
one_end b is = grind (arith, cases_Bool, eqb-true)

-- ---- a field

-- what follows is no quote
abbrev NoQuote : List ℕ → Type 0
NoQuote [] = Unit {0}
NoQuote (c ∷ tail) = (c == 34) ≡ false

plain_read : (fields : List (List ℕ)) (field tail : List ℕ) → NoQuote tail → list_any (needs_byte default_writer) field ≡ false
    → next_record default_config st.StartField fields [] (field ++ tail) ≡ next_record default_config st.InField fields field tail
unfolding next_record
plain_read fields [] [] follows plain = refl
plain_read fields [] (c ∷ tail) follows plain = start-same fields [] c tail follows
plain_read fields (b ∷ rest) tail follows plain = grind (arith, start-same, plain_byte, or_parts, plain-run)

after_quote : (fields : List (List ℕ)) (field tail : List ℕ) → NoQuote tail
    → next_record default_config st.AfterQuote fields field tail ≡ next_record default_config st.InField fields field tail
unfolding next_record
after_quote fields field tail follows = grind (arith, after-quote-same)

quoted_read : (fields : List (List ℕ)) (field tail : List ℕ) → NoQuote tail
    → next_record default_config st.StartField fields [] (34 ∷ (escaped default_writer field ++ (34 ∷ tail))) ≡ next_record default_config st.InField fields field tail
unfolding next_record
quoted_read fields field tail follows = quoted-run fields [] field tail ∙ after_quote fields field tail follows

field_read : (fields : List (List ℕ)) (field text tail : List ℕ) → NoQuote tail → IsFieldText field text
    → next_record default_config st.StartField fields [] (text ++ tail) ≡ next_record default_config st.InField fields field tail
field_read fields field text tail follows h1 = grind (arith, plain_read, append_assoc, quoted_read)

-- ---- a record

-- the state and the text that a record leaves, which ends where the line does
abbrev state_after : List ℕ → State
state_after [] = st.StartRecord
state_after (c ∷ rest) = after_end term.CRLF c

abbrev left_of : List ℕ → List ℕ
left_of [] = []
left_of (c ∷ rest) = rest

abbrev read_of : List (List ℕ) → List ℕ → Read
read_of row rest = (row, state_after rest, left_of rest)

end_read : (fields : List (List ℕ)) (field rest : List ℕ) → IsAtLineEnd rest
    → next_record default_config st.InField fields field rest ≡ Some (read_of (fields ++ (field ∷ [])) rest)
unfolding next_record
end_read fields field rest ends = grind (arith, one_end)

end_no_quote : (rest : List ℕ) → IsAtLineEnd rest → NoQuote rest
end_no_quote rest ends = grind (arith, one_end)

-- no quote follows a field
no_quote : (others : List (List ℕ)) (more rest : List ℕ) → AreFieldTexts others more → IsAtLineEnd rest → NoQuote (more ++ rest)
no_quote [] more rest is ends = subst (λ (t : List ℕ). NoQuote (t ++ rest)) (sym is) (end_no_quote rest ends)
no_quote (field ∷ others) more rest (own, texts, is, written, many) ends = subst (λ (t : List ℕ). NoQuote (t ++ rest)) (sym is) refl

more_read : (fields : List (List ℕ)) (field : List ℕ) (others : List (List ℕ)) (text rest : List ℕ) → AreFieldTexts others text → IsAtLineEnd rest
    → next_record default_config st.InField fields field (text ++ rest) ≡ Some (read_of (fields ++ (field ∷ others)) rest)
unfolding next_record
more_read fields field [] text rest is ends = grind (arith, end_read)
more_read fields field (next ∷ others) text rest (own, more, is, written, many) ends =
    let front = fields ++ (field ∷ []) in
    ap (λ (t : List ℕ). next_record default_config st.InField fields field (t ++ rest)) is
    ∙ ap (λ (t : List ℕ). next_record default_config st.StartField front [] t) (append_assoc own more rest)
    ∙ field_read front next own (more ++ rest) (no_quote others more rest many ends) written
    ∙ more_read front next others more rest many ends
    ∙ ap (λ (row : List (List ℕ)). Some (read_of row rest)) (append_assoc fields (field ∷ []) (next ∷ others))

-- it begins with no end of a line
abbrev Begins : List ℕ → Type 0
Begins [] = ⊥
Begins (c ∷ rest) = ((c == 13) ≡ false) × ((c == 10) ≡ false)

more_begin : (others : List (List ℕ)) (more : List ℕ) → AreFieldTexts others more → more ≢ [] → Begins more
more_begin [] more is some = absurd (some is)
more_begin (field ∷ others) more (own, texts, is, written, many) some = subst Begins (sym is) (refl, refl)

plain_begin : (field : List ℕ) (others : List (List ℕ)) (more : List ℕ) → list_any (needs_byte default_writer) field ≡ false → AreFieldTexts others more
    → (field ++ more) ≢ [] → Begins (field ++ more)
plain_begin [] others more plain many some = more_begin others more many some
plain_begin (b ∷ rest) others more plain many some = let byte = plain_byte b (or_parts _ _ plain).0 in (byte.1, byte.2)

line_begins : (field : List ℕ) (others : List (List ℕ)) (own more : List ℕ) → IsFieldText field own → AreFieldTexts others more → (own ++ more) ≢ [] → Begins (own ++ more)
line_begins field others own more h1 many some = grind (arith, plain_begin)

as_field : (line rest : List ℕ) → Begins line → next_record default_config st.StartRecord [] [] (line ++ rest) ≡ next_record default_config st.StartField [] [] (line ++ rest)
as_field line rest begins = grind (arith, record-same)

line_read : (row : List (List ℕ)) (line rest : List ℕ) → IsRecordText row line → line ≢ [] → IsAtLineEnd rest
    → next_record default_config st.StartRecord [] [] (line ++ rest) ≡ Some (read_of row rest)
line_read [] line rest written some ends = absurd written
line_read (field ∷ others) line rest (own, more, is, written, many) some ends =
    as_field line rest (subst Begins (sym is) (line_begins field others own more written many (λ none. some (is ∙ none))))
    ∙ ap (λ (t : List ℕ). next_record default_config st.StartField [] [] (t ++ rest)) is
    ∙ ap (λ (t : List ℕ). next_record default_config st.StartField [] [] t) (append_assoc own more rest)
    ∙ field_read [] field own (more ++ rest) (no_quote others more rest many ends) written
    ∙ more_read [] field others more rest many ends

-- ---- all lines

-- ends of lines are passed over
skip_end : (c : ℕ) (rest : List ℕ) → is_line_end c ≡ true
    → next_record default_config st.StartRecord [] [] (c ∷ rest) ≡ next_record default_config st.StartRecord [] [] rest
unfolding next_record
skip_end c rest is = grind (arith, one_end)

skip_ends : (blank tail : List ℕ) → list_all is_line_end blank ≡ true
    → next_record default_config st.StartRecord [] [] (blank ++ tail) ≡ next_record default_config st.StartRecord [] [] tail
skip_ends [] tail all = refl
skip_ends (c ∷ blank) tail all =
    let both = and_parts (is_line_end c) (list_all is_line_end blank) all in
    skip_end c (blank ++ tail) both.0 ∙ skip_ends blank tail both.1

no_more : (text : List ℕ) → list_all is_line_end text ≡ true → next_record default_config st.StartRecord [] [] text ≡ None
unfolding next_record
no_more [] all = refl
no_more (c ∷ text) all =
    let both = and_parts (is_line_end c) (list_all is_line_end text) all in
    skip_end c text both.0 ∙ no_more text both.1

-- a line feed after a carriage return is
after_cr : (text : List ℕ) → next_record default_config st.AfterCr [] [] text ≡ next_record default_config st.StartRecord [] [] text
unfolding next_record
after_cr [] = refl
after_cr (c ∷ rest) = grind (arith, cases_Bool, eqb-true)

after_read : (rest : List ℕ) → IsAtLineEnd rest → next_record default_config (state_after rest) [] [] (left_of rest) ≡ next_record default_config st.StartRecord [] [] rest
after_read rest ends = grind (arith, one_end, after_cr, skip_end)

lines_read : (rows : List (List (List ℕ))) (text xs : List ℕ) (s : State) → next_record default_config s [] [] xs ≡ next_record default_config st.StartRecord [] [] text
    → AreLines rows text → AreRecords default_config s xs rows
unfolding Reached
lines_read [] text xs s same all = (s, xs, (refl, refl), same ∙ no_more text all)
lines_read (row ∷ rows) text xs s same (blank, line, rest, is, ends, written, some, stops, more) =
    grind (arith, skip_ends, line_read, lines_read rows rest (left_of rest) (state_after rest) (after_read rest stops) more)

pub read_as_written : (rows : List (List (List ℕ))) (text : List ℕ) → IsTextOf rows text → table_of text ≡ map (λ row. map trimmed_text row) rows
read_as_written rows text is =
    let (s2, ys, reached, none) = lines_read rows (strip_bom text) (strip_bom text) st.StartRecord refl is in
    ap (λ (raw : List (List (List ℕ))). map (λ row. map trimmed_text row) raw) (all_records default_config s2 (strip_bom text) ys rows reached none)

-- What `punctual` wrote up to its first end of a line is the row of its chance.
use Rattle.std.proofs.{lemmas.{Grind.common_steps, Bool.false≢true, List.Folds.list_any-append}, Common.{Bool, true, ◌==◌, ◌||◌, ◌/◌, ◌%◌, append_assoc, codes}}
use Rattle.std.specs.List.{list_any}
use Rattle.run_laws.proofs.Common.{◌≡◌, ℕ, suc, zero, ◌+◌, List, [], ◌∷◌, ◌++◌, arith, refl, sym, ap, subst, ◌∙◌, cases_Bool, false, ne_eqb, Contains, Contains-head, Contains-tail, Limits}
use Rattle.run_laws.proofs.{Common.{Punctual, Interval, findings_of, RunModel, IsRunWithin}, Agreeing.{answered, one_some, one_text}, Printed.of_punctual}
use Rattle.run_laws.specs.Saved.{FirstLineIsItsRow}
use Rattle.journey_report.specs.AnswerTexts.{punctual_row}
use Rattle.csv.specs.Writing.{default_writer, escaped, field_text, fields_text, is_blank, row_body}
use Rattle.clock_text.specs.{Civil.{moment_text, parts_of_day}, Digits.digits, Times.{Parts, text_of_parts}}
use Rattle.late_chance.specs.Chances.{chance_text}
use Rattle.plan_model.specs.Bounds.{certainty}
use Rattle.printed_rows.specs.Records.{row_of_fields}

-- no byte ends a line
abbrev HasNoEnd : List ℕ → Type 0
HasNoEnd text = list_any (λ b. b == 10) text ≡ false

or_parts : (a b : Bool) → (a || b) ≡ false → (a ≡ false) × (b ≡ false)
or_parts a b none = grind arith

before : (b : ℕ) (text : List ℕ) → (b == 10) ≡ false → HasNoEnd text → HasNoEnd (b ∷ text)
before b text one two = rw (one, two) refl

joined : (a b : List ℕ) → HasNoEnd a → HasNoEnd b → HasNoEnd (a ++ b)
joined a b one two = list_any-append (λ c. c == 10) a b ∙ (rw (one, two) refl)

-- ---- the fields of the row

digit_end : (n : ℕ) → ((48 + n) == 10) ≡ false
digit_end n = ne_eqb (48 + n) 10 (λ e. omega (arith, e))

digits_end : (k n : ℕ) → HasNoEnd (digits k n)
digits_end zero n = refl
digits_end (suc k) n = joined (digits k (n / 10)) ((48 + n % 10) ∷ []) (digits_end k (n / 10)) (before (48 + n % 10) [] (digit_end (n % 10)) refl)

-- digits, a mark and a rest
then_mark : (k n mark : ℕ) (rest : List ℕ) → (mark == 10) ≡ false → HasNoEnd rest → HasNoEnd (digits k n ++ mark ∷ rest)
then_mark k n mark rest other none = joined (digits k n) (mark ∷ rest) (digits_end k n) (before mark rest other none)

parts_end : (p : Parts) → HasNoEnd (text_of_parts p)
parts_end p = grind (arith, common_steps, then_mark, digits_end)

chance_end : (chance : ℕ) → HasNoEnd (chance_text chance)
chance_end chance = joined (digits 1 (chance / certainty)) (46 ∷ digits 18 chance) (digits_end 1 (chance / certainty)) (before 46 (digits 18 chance) refl (digits_end 18 chance))

-- ---- rows

escaped_end : (field : List ℕ) → HasNoEnd field → HasNoEnd (escaped default_writer field)
unfolding escaped
escaped_end [] none = refl
escaped_end (b ∷ rest) none = grind (arith, or_parts, cases_Bool, before, escaped_end rest)

field_end : (field : List ℕ) → HasNoEnd field → HasNoEnd (field_text default_writer field)
field_end field none = grind (arith, cases_Bool, before, joined, escaped_end)

abbrev EachHasNone : List (List ℕ) → Type 0
EachHasNone [] = Unit {0}
EachHasNone (field ∷ fields) = HasNoEnd field × EachHasNone fields

fields_end : (fields : List (List ℕ)) → EachHasNone fields → HasNoEnd (fields_text default_writer fields)
unfolding fields_text
fields_end [] each = refl
fields_end (field ∷ fields) each = grind (arith, before, joined, field_end, fields_end fields each.1)

body_end : (field : List ℕ) (fields : List (List ℕ)) → EachHasNone (field ∷ fields) → HasNoEnd (row_body default_writer (field ∷ fields))
body_end field fields each = joined (field_text default_writer field) (fields_text default_writer fields) (field_end field each.0) (fields_end fields each.1)

-- a row of two fields and more is one line
row_line : (first second : List ℕ) (fields : List (List ℕ)) → row_of_fields (first ∷ second ∷ fields) ≡ row_body default_writer (first ∷ second ∷ fields) ++ (10 ∷ [])
unfolding row_of_fields is_blank
row_line first second fields = refl

abbrev chance_fields : ℕ → Interval → List (List ℕ)
chance_fields promise chance = moment_text promise ∷ chance_text chance.lo ∷ chance_text chance.hi ∷ []

abbrev chance_line : ℕ → Interval → List ℕ
chance_line promise chance = row_body default_writer (codes "punctual" ∷ codes "1" ∷ chance_fields promise chance)

chance_row : (promise : ℕ) (chance : Interval) → punctual_row promise chance ≡ chance_line promise chance ++ (10 ∷ [])
unfolding punctual_row
chance_row promise chance = row_line (codes "punctual") (codes "1") (chance_fields promise chance)

chance_line_end : (promise : ℕ) (chance : Interval) → HasNoEnd (chance_line promise chance)
chance_line_end promise chance =
    body_end (codes "punctual") (codes "1" ∷ chance_fields promise chance)
    (refl, (refl, (parts_end (parts_of_day (promise / 86400) (promise % 86400)), (chance_end chance.lo, (chance_end chance.hi, tt)))))

-- ---- the first line of a text is one

never_end : (c : ℕ) → 10 ≡ c → (c == 10) ≡ false → ⊥
never_end c is none = false≢true (sym none ∙ subst (λ (z : ℕ). (z == 10) ≡ true) is refl)

lines_same : (a b x y : List ℕ) → HasNoEnd a → HasNoEnd b → a ++ (10 ∷ x) ≡ b ++ (10 ∷ y) → a ≡ b
lines_same [] [] x y one two same = refl
lines_same [] (d ∷ b) x y one two same = let is : 10 ≡ d = cc in absurd (never_end d is (or_parts (d == 10) _ two).0)
lines_same (c ∷ a) [] x y one two same = let is : 10 ≡ c = cc in absurd (never_end c is (or_parts (c == 10) _ one).0)
lines_same (c ∷ a) (d ∷ b) x y one two same = grind (arith, or_parts, lines_same a b x y (or_parts (c == 10) _ one).1 (or_parts (d == 10) _ two).1)

no_end : (line : List ℕ) → ¬ Contains line 10 → HasNoEnd line
no_end [] none = refl
no_end (b ∷ line) none = grind (arith, before b line, ne_eqb b 10, Contains-head b line, Contains-tail b line 10, no_end line)

module _ (limits : Limits) (r : RunModel) (run : IsRunWithin limits r) where
  pub first_line : FirstLineIsItsRow limits r
  first_line files others j alpha promise path front chance one is own kept =
      let w = answered limits files r run one.untroubled j (Punctual alpha promise) one.asks one.no_fault in
      let row = of_punctual j.start alpha w.p (findings_of r.report) w.text promise w.answers in
      let same_chance = one_some row.chance chance r.report.chance row.found_is is in
      let text : front ++ kept.text ≡ w.text = one_text r.before.out.written (front ++ kept.text) w.text r.after.out.written kept.known kept.written w.written in
      let line = chance_line promise chance in
      let written : own.line ++ (10 ∷ kept.text) ≡ line ++ (10 ∷ row.rest) =
      sym (append_assoc own.line (10 ∷ []) kept.text) ∙ ap (λ (t : List ℕ). t ++ kept.text) (sym own.is) ∙ text ∙ row.rows
      ∙ ap (λ (c : Interval). punctual_row promise c ++ row.rest) same_chance ∙ ap (λ (t : List ℕ). t ++ row.rest) (chance_row promise chance) ∙ append_assoc line (10 ∷ []) row.rest in
      let same = lines_same own.line line kept.text row.rest (no_end own.line own.no_end) (chance_line_end promise chance) written in
      own.is ∙ ap (λ (t : List ℕ). t ++ (10 ∷ [])) same ∙ sym (chance_row promise chance)

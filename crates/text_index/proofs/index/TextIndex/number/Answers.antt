use Rattle.text_index.proofs.Common.{◌≡◌, ℕ, None, Some, List, Contains, slice_get, sym, subst, ◌∙◌, ap, number_is, key_absent, key_position, key_texts}
use Rattle.csv_rows.specs.Tables.{number_in}
use Rattle.text_index.proofs.index.TextIndex.number.Goals as goal

pub returns-in-None-clause-none : goal.returns-in-None-clause-none
returns-in-None-clause-none c =
    let keys = c.self.inside.numbers.keys in
    let text = c.args.text.now in
    subst (λ (w : List (List ℕ)). ¬ Contains w text) c.self.view_is (key_absent text keys (sym c.in-None.ensures.found))

pub returns-in-None-clause-number : goal.returns-in-None-clause-number
returns-in-None-clause-number c =
    let keys = c.self.inside.numbers.keys in
    let text = c.args.text.now in
    number_is None text (key_texts keys) c.self.invariant.distinct tt (key_absent text keys (sym c.in-None.ensures.found)) ∙ ap (number_in text) c.self.view_is

pub returns-in-Some-clause-found : goal.returns-in-Some-clause-found
returns-in-Some-clause-found c =
    let keys = c.self.inside.numbers.keys in
    let text = c.args.text.now in
    subst (λ (w : List (List ℕ)). slice_get w c.in-Some.number ≡ Some text) c.self.view_is (key_position text keys c.in-Some.number (sym c.in-Some.ensures.index))

pub returns-in-Some-clause-number : goal.returns-in-Some-clause-number
returns-in-Some-clause-number c =
    let keys = c.self.inside.numbers.keys in
    let text = c.args.text.now in
    number_is (Some c.in-Some.number) text (key_texts keys) c.self.invariant.distinct (key_position text keys c.in-Some.number (sym c.in-Some.ensures.index)) tt
    ∙ ap (number_in text) c.self.view_is

use Rattle.command_line.proofs.{Common.{◌≡◌, ℕ, List, IsTrue, sym, ◌∙◌, subst, flat_map, OptionName, spelled, value_of, value_in, are_settings, arith}, Lines.{settings_hold, read_settings}}
use Rattle.command_line.proofs.settings.line_is_a_command_and_its_settings.Goals as goal

pub returns-clause-accepted : goal.returns-clause-accepted
returns-clause-accepted c words command given line rest is =
    let both = sym line.words_are ∙ is in
    let same : flat_map spelled given ≡ rest = (cc) in
    let P : List (List ℕ) → Type 0 = λ rest. IsTrue (are_settings rest) × ((option : OptionName) → value_of rest option ≡ value_in given option) in
    subst P same (settings_hold given line.once)

pub returns-clause-only : goal.returns-clause-only
returns-clause-only c command rest are = grind (arith, read_settings)

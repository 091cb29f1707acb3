use Rattle.command_line.proofs.Common.{◌∙◌, ap, ℕ, List, map, string_bytes, text_of, last_until, moment_of}
use Rattle.command_line.proofs.values.read_later.Goals as goal

pub returns-clause-later : goal.returns-clause-later
returns-clause-later c =
    c.read_moment_of.ensures.moment
    ∙ ap (λ (text : List ℕ). moment_of c.start_of.result.moment.0 last_until text) (c.as_bytes.ensures.value ∙ c.text_of-text.ensures)
    ∙ ap (λ (first : ℕ). moment_of first last_until (text_of (map string_bytes c.args.settings.now) c.args.option)) c.start_of.ensures

use Rattle.command_line.proofs.Common.{◌∙◌, ◌+◌, ap, ℕ, List, map, string_bytes, By, text_of, LONGEST_PROMISE, moment_of}
use Rattle.command_line.proofs.values.read_promise.Goals as goal

pub returns-clause-promise : goal.returns-clause-promise
returns-clause-promise c =
    c.read_moment_of.ensures.moment
    ∙ ap (λ (text : List ℕ). moment_of c.start_of.result.moment.0 (c.start_of.result.moment.0 + LONGEST_PROMISE) text) (c.as_bytes.ensures.value ∙ c.text_of-text.ensures)
    ∙ ap (λ (first : ℕ). moment_of first (first + LONGEST_PROMISE) (text_of (map string_bytes c.args.settings.now) By)) c.start_of.ensures

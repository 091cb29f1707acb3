use Rattle.std.proofs.Common.{take_all}
use Rattle.std.specs.Prelude.{Ok, Err}
use Rattle.command_line.proofs.Common.{◌≡◌, ◌≤◌, ◌-◌, ◌∙◌, Option, List, String, Global, [], ◌∷◌, length, take, drop, map, get_or, string_bytes, arith, true, refl, sym, ap, are_settings}
use Rattle.command_line.specs.{Jobs.{job_of, job_by}, Options.command_named, declared.{options.Command.Command, job.WordsFault.TheVariants.{NotUsed, Missing, BadValue}}}
use Rattle.command_line.proofs.job.read_job.Goals as goal

-- the first word is the command, and the others are its settings
job_is : (words : List (String Global)) (name : String Global) (command : Option Command) → 1 ≤ length words → name ≡ get_or words 0 name
    → are_settings (map string_bytes (take (length words - 1) (drop 1 words))) ≡ true → command ≡ command_named (string_bytes name)
    → job_of (map string_bytes words) ≡ job_by command (map string_bytes (take (length words - 1) (drop 1 words)))
job_is [] name command some first are is = absurd (omega arith)
job_is (word ∷ rest) name command some first are is =
    let whole : take (length (word ∷ rest) - 1) rest ≡ rest = take_all (length (word ∷ rest) - 1) rest (omega arith) in
    rw (whole, rw whole at are, is, first) refl

pub returns-in_default-named-clause-job : goal.returns-in_default-named-clause-job
returns-in_default-named-clause-job c =
    let is = job_is _ _ _ c.in-len1-up.len_at_least c.name-item.is (sym c.are_settings.ensures ∙ c.if-not-are_settings.false) (c.named.ensures ∙ ap command_named c.as_str.ensures.value) in
    rw (is, c.in_default-named.is) refl

pub returns-in-Some-first_useless-clause-job : goal.returns-in-Some-first_useless-clause-job
returns-in-Some-first_useless-clause-job c =
    let is = job_is _ _ _ c.in-len1-up.len_at_least c.name-item.is (sym c.are_settings.ensures ∙ c.if-not-are_settings.false) (c.named.ensures ∙ ap command_named c.as_str.ensures.value) in
    rw (is, c.in-Some.is, sym c.first_useless.ensures, c.in-Some-first_useless.is) (ap (λ n. Err (NotUsed n)) c.number.ensures)

pub returns-in-Some-first_missing-clause-job : goal.returns-in-Some-first_missing-clause-job
returns-in-Some-first_missing-clause-job c =
    let is = job_is _ _ _ c.in-len1-up.len_at_least c.name-item.is (sym c.are_settings.ensures ∙ c.if-not-are_settings.false) (c.named.ensures ∙ ap command_named c.as_str.ensures.value) in
    rw (is, c.in-Some.is, sym c.first_useless.ensures, c.in_default-first_useless.is, sym c.first_missing.ensures, c.in-Some-first_missing.is)
    (ap (λ n. Err (Missing n)) c.number-in-Some-first_missing.ensures)

pub returns-in-Some-first_bad-clause-job : goal.returns-in-Some-first_bad-clause-job
returns-in-Some-first_bad-clause-job c =
    let is = job_is _ _ _ c.in-len1-up.len_at_least c.name-item.is (sym c.are_settings.ensures ∙ c.if-not-are_settings.false) (c.named.ensures ∙ ap command_named c.as_str.ensures.value) in
    rw (is, c.in-Some.is, sym c.first_useless.ensures, c.in_default-first_useless.is, sym c.first_missing.ensures, c.in_default-first_missing.is, sym c.first_bad.ensures, c.in-Some-first_bad.is)
    (ap (λ n. Err (BadValue n)) c.number-in-Some-first_bad.ensures)

pub returns-clause-job : goal.returns-clause-job
returns-clause-job c =
    let is = job_is _ _ _ c.in-len1-up.len_at_least c.name-item.is (sym c.are_settings.ensures ∙ c.if-not-are_settings.false) (c.named.ensures ∙ ap command_named c.as_str.ensures.value) in
    rw (is, c.in-Some.is, sym c.first_useless.ensures, c.in_default-first_useless.is, sym c.first_missing.ensures, c.in_default-first_missing.is, sym c.first_bad.ensures, c.in_default-first_bad.is)
    (ap Ok c.job_of.ensures.wanted)

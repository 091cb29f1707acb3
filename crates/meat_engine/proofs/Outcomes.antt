-- What a run comes to.
use Rattle.meat_engine.proofs.Common.{arith, ◌≡◌, ℕ, List, Option, Some, None, Ok, inl, inr, sym, subst, ⊎_elim, ◌≢◌, ◌⊎◌, Keeps, FileMap, Limits, AskModel, JobModel, job_of, Input, Fault, Read}
use Rattle.meat_engine.proofs.Common.{Write, NoMemory, line_of, IsFormatted, NamedParts, Problem, Report, FailsAsk, Findings, findings_of, no_findings, AnswersJob, Appends, AppendsFront}
use Rattle.meat_engine.proofs.Common.{HasAnswer, FailsJob, IsExplained, IsRefused, IsRefusedWith, IsWritten, IsLineWritten, Outcome}
use Rattle.std.proofs.lemmas.Option.{same_Some}

pub no_memory_or_not : (fault : Fault) → (fault ≡ NoMemory) ⊎ (fault ≢ NoMemory)
no_memory_or_not fault = grind arith

module _ (contents : Option FileMap) (limits : Limits) (words : List (List ℕ)) where
  -- what is asked does not fail because its answer cannot be written
  ask_write : (start : ℕ) (p : Problem) (ask : AskModel) → FailsAsk contents limits start p ask Write → ⊥
  ask_write start p ask fails = grind arith

  pub write_fails : (wanted : JobModel) (known : Option NamedParts) → FailsJob contents limits wanted known Write → ⊥
  write_fails wanted known h = grind (arith, ask_write)

  -- why a job fails is why there is no answer to its words
  pub job_cause : (wanted : JobModel) (known : Option NamedParts) → job_of words ≡ Ok wanted → (fault : Fault) → (fault ≢ NoMemory → FailsJob contents limits wanted known fault)
      → IsExplained contents limits words known fault
  job_cause wanted known is fault fails =
      ⊎_elim (λ (same : fault ≡ NoMemory). inl same) (λ (other : fault ≢ NoMemory). inr (inr (wanted, is, fails other))) (no_memory_or_not fault)

  module _ (report : Report) (old new : Option (List ℕ)) (IsLine : List ℕ → Type 0) where
    outcome_by : (fault : Fault) → fault ≢ Write → Keeps old new → IsRefused contents limits words report IsLine fault → Outcome contents limits words report old new IsLine (Some fault)
    outcome_by fault other keeps refused = grind arith

  -- a refusal whose line was written
  pub refused_outcome : (report : Report) (old new before after : Option (List ℕ)) (was now : ℕ) (known : Option NamedParts) (wanted : Fault) (found : Option Fault)
      → findings_of report ≡ no_findings → Keeps old new
      → IsExplained contents limits words known wanted → wanted ≢ Write → IsRefusedWith before after was now known wanted found
      → Outcome contents limits words report old new (IsLineWritten before after was now) found
  refused_outcome report old new before after was now known wanted found findings keeps cause other refused = grind (arith, outcome_by)

  -- an answer that was written, or not wholly
  pub answered_outcome : (wanted : JobModel) (answer : Findings) (report : Report) (text : List ℕ) (old new : Option (List ℕ)) (IsLine : List ℕ → Type 0) (found : Option Fault)
      → job_of words ≡ Ok wanted → findings_of report ≡ answer
      → AnswersJob contents limits wanted answer text → IsWritten old new text found → ((known : Option NamedParts) → found ≡ Some Write → IsLine (line_of known Write))
      → Outcome contents limits words report old new IsLine found
  answered_outcome wanted answer report text old new IsLine found is same answers written reports = record {
    whole = λ none. has (λ (t : List ℕ). Appends old new t) (subst (IsWritten old new text) none written);
    torn = λ write. (has (λ (t : List ℕ). AppendsFront old new t) (subst (IsWritten old new text) write written).1, λ known. reports known write);
    refused = λ other some never. absurd (never (subst (IsWritten old new text) some written).0);
  }
    where
      has : (P : List ℕ → Type 0) → P text → HasAnswer contents limits words report P
      has P holds = (text, (wanted, is, subst (λ (f : Findings). AnswersJob contents limits wanted f text) (sym same) answers), holds)

module _ (before after : Option (List ℕ)) (was now : ℕ) (known : Option NamedParts) where
  pub refused_some : (wanted : Fault) (found : Option Fault) → IsRefusedWith before after was now known wanted found → found ≡ None → ⊥
  refused_some wanted found refused none = grind arith

  -- what was written is the line of the fault, or that there is no memory for it
  pub refused_is : (wanted : Fault) (found : Option Fault) (fault : Fault) → IsRefusedWith before after was now known wanted found → found ≡ Some fault → (fault ≡ wanted)
      ⊎ ((fault ≡ NoMemory) × IsFormatted wanted)
  refused_is wanted found fault refused is = grind (arith, same_Some)

  -- that a file cannot be read is always said
  pub refused_read : (wanted : Fault) (found : Option Fault) (file : Input) → IsRefusedWith before after was now known wanted found → wanted ≡ Read file → found ≡ Some (Read file)
  refused_read wanted found file refused is = grind arith

pub keeps_same : (o : Option (List ℕ)) → Keeps o o
keeps_same o = grind arith

-- What an outcome says, where no file failed to be read and the answer was written.
use Rattle.meat_engine.proofs.Common.{◌≡◌, ℕ, refl, List, Option, Some, None, Ok, ◌≢◌, FileMap, Limits, JobModel, job_of, Report, Fault, Write, NoMemory, NamedParts, findings_of, AnswersJob}
use Rattle.meat_engine.proofs.Common.{FailsJob, arith, IsExplained, Outcome}

pub one_job : (words : List (List ℕ)) (a b : JobModel) → job_of words ≡ Ok a → job_of words ≡ Ok b → a ≡ b
one_job words a b h k = cc

module _ (contents : Option FileMap) (limits : Limits) (words : List (List ℕ)) (report : Report) (old new : Option (List ℕ)) (Reports : List ℕ → Type 0) where
  caused : (fault : Fault) → fault ≢ NoMemory → (wanted : JobModel) → job_of words ≡ Ok wanted → (known : Option NamedParts)
      → IsExplained contents limits words known fault → FailsJob contents limits wanted known fault
  caused fault m wanted h known is = grind (arith, one_job)

  pub fails : (fault : Fault) → Outcome contents limits words report old new Reports (Some fault) → fault ≢ Write → fault ≢ NoMemory
      → (wanted : JobModel) → job_of words ≡ Ok wanted → (known : Option NamedParts) × FailsJob contents limits wanted known fault
  fails fault o n m wanted h = let r = (o.refused fault refl n).1.1 in (r.0, caused fault m wanted h r.0 r.1)

  pub answered : Outcome contents limits words report old new Reports None → (wanted : JobModel) → job_of words ≡ Ok wanted → (text : List ℕ) × AnswersJob contents limits wanted (findings_of report) text
  answered o wanted h = grind (arith, one_job)

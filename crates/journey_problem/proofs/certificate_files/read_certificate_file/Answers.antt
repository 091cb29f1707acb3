-- The steps of a check, put together.
use Rattle.journey_problem.proofs.Common.{arith, if_raised, ◌≡◌, ℕ, List, Option, None, Result, Ok, Err, refl, sym, subst, ◌≢◌, IfErr, IfOk, IfSome, FileMap, file_at, Limits, Fault}
use Rattle.journey_problem.proofs.{Common.{NoMemory, unread_input, IsOfInput, Problem, bytes_of}, Causes.causes-quiet, FeedSteps.none_unread_of}
use Rattle.journey_problem.specs.CertificateFiles.{IsCertificateText, FailsText, FailsFile, IsCertificateFile, FailsCertificate}
use Rattle.plan_model.specs.declared.model.Query.{Query}
use Rattle.lower_proof.specs.declared.LowerBounds.{LowerBounds}
use Rattle.journey_model.specs.declared.faults.Input.TheVariants as input
use Rattle.journey_problem.proofs.certificate_files.read_certificate_file.Goals as goal

module _ (limits : Limits) (p : Problem) (start : ℕ) (file : Option (List ℕ)) where
  -- a file that cannot be loaded
  load_fails : (fault : Fault) → bytes_of limits.bytes input.Proof (unread_input fault) file ≡ Err fault
      → FailsFile p start (bytes_of limits.bytes input.Proof (unread_input fault) file) fault
  load_fails fault is = subst (λ (bytes : Result (List ℕ) Fault). FailsFile p start bytes fault) (sym is) refl

module _ (contents : Option FileMap) (limits : Limits) (start : ℕ) (path : List ℕ) (p : Problem) where
  pub unloaded : (fault : Fault) → (fault ≢ NoMemory → IsOfInput input.Proof fault)
      → IfSome contents (λ files. fault ≢ NoMemory → bytes_of limits.bytes input.Proof (unread_input fault) (file_at files path) ≡ Err fault)
      → fault ≢ NoMemory → FailsCertificate contents limits start path p fault
  unloaded fault of fails other = grind (arith, load_fails)

  module _ (text same : List ℕ) (is : same ≡ text) (there : IfSome contents (λ files. bytes_of limits.bytes input.Proof None (file_at files path) ≡ Ok text)) where
    pub read : (r : Result (Query × LowerBounds) Fault) → IfOk r (λ f. IsCertificateText p start same f.0 f.1) → IfOk r (λ f. IsCertificateFile contents limits start path p f.0 f.1)
    read r reports = grind arith

    pub unread : (r : Result (Query × LowerBounds) Fault) → IfErr r (λ fault. fault ≢ NoMemory → FailsText p start same fault)
        → IfErr r (λ fault. fault ≢ NoMemory → IsOfInput input.Proof fault) → IfErr r (λ fault. unread_input fault ≡ None)
        → IfErr r (λ fault. fault ≢ NoMemory → FailsCertificate contents limits start path p fault)
    unread r fails of none = grind arith

pub returns-in_err-bytes-clause-fault : goal.returns-in_err-bytes-clause-fault
returns-in_err-bytes-clause-fault g c = if_raised _ c.from_residual.result c.from_residual.ensures
    (unloaded (g.F.Files.state c.args.files.now).files c.args.limits.now c.args.start.0 c.args.path.now c.args.problem.now _ c.in_err-bytes.ensures.stage c.in_err-bytes.ensures.bytes)

pub returns-clause-certificate : goal.returns-clause-certificate
returns-clause-certificate g c =
    read (g.F.Files.state c.args.files.now).files c.args.limits.now c.args.start.0 c.args.path.now c.args.problem.now c.in_ok-bytes.bytes.items c.as_slice.result.now
    c.as_slice.ensures.value c.in_ok-bytes.ensures.bytes c.certificate_of_bytes.result c.certificate_of_bytes.ensures.certificate

pub returns-clause-fault : goal.returns-clause-fault
returns-clause-fault g c = let is = c.certificate_of_bytes.ensures in
    unread (g.F.Files.state c.args.files.now).files c.args.limits.now c.args.start.0 c.args.path.now c.args.problem.now c.in_ok-bytes.bytes.items c.as_slice.result.now
    c.as_slice.ensures.value c.in_ok-bytes.ensures.bytes c.certificate_of_bytes.result is.fault is.stage is.read

pub returns-clause-own : goal.returns-clause-own
returns-clause-own g c = none_unread_of input.Proof c.certificate_of_bytes.result c.certificate_of_bytes.ensures.read

pub returns-clause-causes : goal.returns-clause-causes
returns-clause-causes g c = causes-quiet c.in_ok-bytes.bytes _ c.in_ok-bytes.ensures.causes c.certificate_of_bytes.ensures.read

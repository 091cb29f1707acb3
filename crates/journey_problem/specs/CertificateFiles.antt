-- What is read of a certificate file, and its first fault.
use Rattle.std.specs.Prelude.{◌≡◌, ℕ, List, Option, None, Result, Ok, Err, IfSome}
use Rattle.file_ports.specs.Ports.{FileMap, file_at}
use Rattle.csv_rows.specs.{Tables.{table_of, header}, declared.limits.Limits.Limits}
use Rattle.plan_model.specs.declared.model.Query.{Query}
use Rattle.lower_proof.specs.{declared.{LowerBounds.LowerBounds, reader.ProofFault.ProofFault}, Reading.{bounds_in, IsFaultAfter, IsProofReported}}
use Rattle.journey_model.specs.{declared.{faults.Fault.{Fault, TheVariants.ProofFile}, problem.Problem.Problem}, Faults.unread_input}
use Rattle.journey_problem.specs.Files.{bytes_of, IsOfInput}
use Rattle.journey_model.specs.declared.faults.Input.TheVariants as input

-- a text has this query and this certificate, of the problem's source and target and from a start on
abbrev pub IsCertificateText : Problem → ℕ → List ℕ → Query → LowerBounds → Type 0
IsCertificateText p start text query certificate = IsProofReported p.timetable.network p.timetable.names p.source.0 p.target.0 start (table_of text) query certificate.values

-- the first fault of a text
abbrev pub FailsText : Problem → ℕ → List ℕ → Fault → Type 0
FailsText p start text fault =
    (first : ProofFault) × (fault ≡ ProofFile first)
    × IsFaultAfter p.timetable.network p.timetable.names (table_of text) (bounds_in p.timetable.names p.source.0 p.target.0 start (header (table_of text))) first

-- that of a file: of its bytes, if they are there, and otherwise in loading them
abbrev pub FailsFile : Problem → ℕ → Result (List ℕ) Fault → Fault → Type 0
FailsFile p start (Ok text) fault = FailsText p start text fault
FailsFile p start (Err first) fault = fault ≡ first

-- these are the query and the certificate of the certificate file of this path, if the files are known
pub record IsCertificateFile (contents : Option FileMap) (limits : Limits) (start : ℕ) (path : List ℕ) (p : Problem) (query : Query) (certificate : LowerBounds) : Type 0 where
  pub text : List ℕ
  pub reads : IfSome contents (λ files. bytes_of limits.bytes input.Proof None (file_at files path) ≡ Ok text)
  pub reports : IsCertificateText p start text query certificate

-- this holds of the query and the certificate of the certificate file
abbrev pub InCertificateFile : Option FileMap → Limits → ℕ → List ℕ → Problem → (Query → LowerBounds → Type 0) → Type 0
InCertificateFile contents limits start path p P = (query : Query) × (certificate : LowerBounds) × IsCertificateFile contents limits start path p query certificate × P query certificate

-- the first fault of the certificate file is this one, if no file but that of the fault is unread
abbrev pub FailsCertificate : Option FileMap → Limits → ℕ → List ℕ → Problem → Fault → Type 0
FailsCertificate contents limits start path p fault =
    IsOfInput input.Proof fault × IfSome contents (λ files. FailsFile p start (bytes_of limits.bytes input.Proof (unread_input fault) (file_at files path)) fault)

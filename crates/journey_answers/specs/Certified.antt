-- What `certify` answers, a certificate of the query, and `check`, that one holds.
use Rattle.std.specs.Prelude.{◌≡◌, ℕ, List, Option}
use Rattle.plan_model.specs.declared.model.{Moment.Moment, Query.Query, ConnectionId.ConnectionId}
use Rattle.lower_proof.specs.{declared.LowerBounds.LowerBounds, Certificates.{IsTight, IsLeastAtStart, IsAccepted, IsLastFault}, Promises.IsBestCertificate}
use Rattle.lower_proof.specs.{Promises.IsSound, Reading.ReadsBack, CertificateTexts.certificate_text}
use Rattle.journey_model.specs.declared.{problem.Problem.Problem, faults.Fault.{Fault, TheVariants.ProofFails}}
use Rattle.journey_report.specs.{Findings.{Findings, certify_findings, check_findings}, AnswerTexts.holds_text}
use Rattle.printed_rows.specs.Records.{place_name}

-- the answer of `certify`: of the certificates of the query the greatest that is accepted, with the least value of the ways to leave its run at each
-- connection that can be boarded; the text reads back
pub record AnswersCertify (p : Problem) (found : Findings) (text : List ℕ) (query : Query) (worst : Moment) : Type 0 where
  pub proof : LowerBounds
  pub found_is : found ≡ certify_findings query worst proof
  pub tight : IsTight p.timetable.network query proof.values
  pub best : IsBestCertificate p.timetable.network query proof.values
  pub text_is : text ≡ certificate_text p.timetable.network p.timetable.names query proof.values
  pub reads_back : ReadsBack p.timetable.network p.timetable.names query proof.values text

-- the answer of `check`: that a certificate holds, with its least value at the start, which is below each strategy that is safe for its query
pub record IsHeld (p : Problem) (found : Findings) (text : List ℕ) (query : Query) (certificate : LowerBounds) : Type 0 where
  pub accepted : IsAccepted p.timetable.network query certificate.values
  pub sound : IsSound p.timetable.network query certificate.values
  pub least : Option ℕ
  pub least_is : IsLeastAtStart p.timetable.network query certificate.values least
  pub found_is : found ≡ check_findings query certificate least
  pub text_is : text ≡ holds_text (place_name p.timetable.names p.source.0) (place_name p.timetable.names p.target.0) query least

-- the fault is that a certificate fails, and at the last connection of the scan order that can be boarded and whose value is too great or missing
abbrev pub IsBroken : Problem → Fault → Query → LowerBounds → Type 0
IsBroken p fault query certificate = (connection : ConnectionId) × (fault ≡ ProofFails connection) × IsLastFault p.timetable.network query certificate.values connection.0

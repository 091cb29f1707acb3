-- The certificate that `certify` finds, beside another that `check` accepts.
use Rattle.std.specs.Prelude.{◌≡◌, ℕ, List, Some}
use Rattle.file_ports.specs.Ports.{FileMap}
use Rattle.lower_proof.specs.{declared.LowerBounds.LowerBounds, Promises.IsNowhereAbove}
use Rattle.command_line.specs.Jobs.{JourneyModel, Certify, CheckProof}
use Rattle.run_laws.specs.{Runs.RunModel, TwoRuns.{AskBoth, EndWell}}

-- of the certificates of one query, that which `certify` finds is the greatest at each connection: where it has a value, each that `check` accepts has
-- one too, which is no greater
abbrev pub CertificateIsGreatest : RunModel → RunModel → Type 0
CertificateIsGreatest r s =
    (files others : FileMap) (j : JourneyModel) (alpha : ℕ) (path : List ℕ) (proof other : LowerBounds)
    → AskBoth files others j (Certify alpha) (CheckProof path) r s → EndWell r s → r.report.query ≡ s.report.query
    → r.report.proof ≡ Some proof → s.report.proof ≡ Some other → IsNowhereAbove proof.values other.values

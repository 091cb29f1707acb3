-- What `certify` prints is read as a certificate file, and its certificate is accepted; and its value is within the bounds of a plan.
use Rattle.run_laws.proofs.Common.{◌≡◌, ℕ, ◌+◌, ◌≤◌, subst, arith, inl, inr, List, Option, None, Some, Result, Ok, Err, length, FileMap, file_at, Limits, table_of, Interval, Query, NetworkModel}
use Rattle.run_laws.proofs.Common.{count, IsBoardableAtStart, PlanGraph, unfold_plan, IsPlanned, below_covers, IsAccepted, IsLeastAtStart, never_memory, IsLeast-unique, Fault, Problem, Findings}
use Rattle.run_laws.proofs.Common.{bytes_of, FailsFile, IsCertificateText, InQuery, AnswersCertify, EndsByCertificateFile, EndsByVerdict}
use Rattle.lower_proof.specs.Promises.{IsBestCertificate}
use Rattle.lower_proof.proofs.Best.{sound}
use Rattle.journey_model.specs.declared.faults.Input.TheVariants as input

-- the bytes of a file that is there and short enough
pub bytes_there : (most : ℕ) (files : FileMap) (path text : List ℕ) → file_at files path ≡ Some text → length text ≤ most → bytes_of most input.Proof None (file_at files path) ≡ Ok text
bytes_there most files path text there small = grind arith

same_text : (a b : List ℕ) (r : Result (List ℕ) Fault) → r ≡ Ok a → r ≡ Ok b → a ≡ b
same_text a b r x y = cc

pub printed_certificate : (limits : Limits) (files : FileMap) (start alpha : ℕ) (p : Problem) (found : Findings) (text path : List ℕ) (status : ℕ)
    → InQuery p start alpha (AnswersCertify p found text) → file_at files path ≡ Some text → length text ≤ limits.bytes → EndsByCertificateFile limits files start path p status → status ≡ 0
printed_certificate limits files start alpha p found text path status (q, worst, asked, certified) there small (inl (query, proof, is, verdict)) =
    by_verdict verdict
  where
    bytes : bytes_of limits.bytes input.Proof None (file_at files path) ≡ Ok text
    bytes = bytes_there limits.bytes files path text there small

    one : is.text ≡ text
    one = same_text is.text text (bytes_of limits.bytes input.Proof None (file_at files path)) is.reads bytes

    reported : IsCertificateText p start text query proof
    reported = subst (λ (t : List ℕ). IsCertificateText p start t query proof) one is.reports

    back : (query ≡ q) × (proof.values ≡ certified.proof.values)
    back = certified.reads_back (Ok (query, proof)) (rw (asked.source, asked.target, asked.start_is) reported)

    accepted : IsAccepted p.timetable.network query proof.values
    accepted = rw (back.0, back.1) certified.best.accepted

    by_verdict : EndsByVerdict p.timetable.network query proof.values status → status ≡ 0
    by_verdict (inl (good, zero)) = zero
    by_verdict (inr (connection, fault, late)) = absurd (fault.fault (accepted connection fault.there fault.board))
printed_certificate limits files start alpha p found text path status (q, worst, asked, certified) there small (inr (fault, fails, is)) =
    let bytes = bytes_there limits.bytes files path text there small in
    let (first, is_first, late) = subst (λ (r : Result (List ℕ) Fault). FailsFile p start r fault) bytes fails in
    let never = never_memory p.timetable.network p.timetable.names p.source.0 p.target.0 start (table_of text) first late in
    absurd (never (certified.reads_back (Err first) (inr (rw (asked.source, asked.target, asked.start_is) late))))

-- ---- the value of the certificate, and the bounds of a plan

same_value : (v w : ℕ) → ◌≡◌ {A = Option ℕ} (Some v) (Some w) → v ≡ w
same_value v w is = cc

pub value_within : (n : NetworkModel) (q : Query) (graph : PlanGraph) (bounds : Interval) (values : List (Option ℕ)) (v : ℕ) → IsPlanned n q graph bounds → IsBestCertificate n q values
    → IsLeastAtStart n q values (Some v) → (v ≤ bounds.hi) × (bounds.lo ≤ v + count n)
value_within n q graph bounds values v planned best least =
    let t = unfold_plan graph n q in
    let (w, own, below) = sound n q values best.accepted t planned.best.safe in
    let (u, is, greatest, near) = best.value t planned.best.safe in
    let one = same_value v w (IsLeast-unique n q values (IsBoardableAtStart n q.source.0 q.start.0) q.source.0 q.start.0 (Some v) (Some w) least own) in
    let other = same_value v u (IsLeast-unique n q values (IsBoardableAtStart n q.source.0 q.start.0) q.source.0 q.start.0 (Some v) (Some u) least is) in
    let upper = below_covers w bounds.hi t below planned.best.encloses.1 in
    let lower = below_covers bounds.lo (u + count n) near.0 (planned.best.below_safe near.0 near.1) near.2 in
    (omega (arith, one, upper), omega (arith, other, lower))

-- What is asked about a problem has an answer or one first fault.
use Rattle.std.proofs.Common.{rules}
use Rattle.run_laws.proofs.Common.{◌≡◌, ◌≢◌, ℕ, ◌<◌, ◌⊎◌, List, Option, Some, Result, Ok, Err, inl, inr, sym, subst, ◌∙◌, arith, cases_eq, cases_order, FileMap, file_at, table_of, Limits, Query}
use Rattle.run_laws.proofs.Common.{NetworkModel, IsValid, count, dep_of, IsEarlier, PlanGraph, Head, LowerBounds, ProofFault, IsLastFault, read_once, never_memory, AskModel, Safe, Expand, Plan}
use Rattle.run_laws.proofs.Common.{Replays, Certify, CheckProof, CheckGraph, Punctual, Departures, Latest, Reach, Input, Fault, Problem, Findings, none_unread, bytes_of, AnswersReplay}
use Rattle.run_laws.proofs.Common.{IsTripFault, trip_by, IsEnclosed, IsUnsafeGraph, IsHeld, IsBroken, graph_in, InGraphFile, FailsGraph, FailsText, FailsFile, FailsCertificate, InCertificateFile}
use Rattle.run_laws.proofs.{Common.{IsNoSafe, AnswersAsk, FailsAsk, FailsCheck, FailsReplay, FailsScore}, FirstFaults.NotRead, OneFile.{one_err, never_both, read_graph, in_graph, read_bytes}}
use Rattle.run_laws.proofs.{OneFile.{Reads, in_certificate}, Queries.not_none}
use Rattle.lower_proof.specs.declared.reader.ProofFault.TheVariants.{NoMemory as NoRoom}
use Rattle.journey_model.specs.declared.faults.Input.TheVariants as input

-- ---- of two failures one is first

-- ---- of two connections one is earlier

either_earlier : (n : NetworkModel) → IsValid n → (c d : ℕ) → c < count n → d < count n → c ≢ d → IsEarlier n c d ⊎ IsEarlier n d c
either_earlier n valid c d there here apart = grind (arith, cases_order (dep_of n c) (dep_of n d), cases_order c d)

one_last : (n : NetworkModel) → IsValid n → (q : Query) (values : List (Option ℕ)) (c d : ℕ) → IsLastFault n q values c → IsLastFault n q values d → c ≡ d
one_last n valid q values c d a b = elim (cases_eq c d) [
  | inl same ↦ same
  | inr apart ↦ elim (either_earlier n valid c d a.there b.there apart) [
    | inl before ↦ absurd (b.fault (a.last d b.there b.board before))
    | inr after ↦ absurd (a.fault (b.last c a.there a.board after))
  ]
]

-- two faults, each of a file or of what it holds, are one if both are of the file, or both of what it holds, and never one of each
one_cause : {A B C D E : Type 0} → (A → B → E) → (A → D → ⊥) → (B → C → ⊥) → (C → D → E) → A ⊎ C → B ⊎ D → E
one_cause files left right held h is = grind arith

module _ (p : Problem) (files : FileMap) (limits : Limits) (start : ℕ) where
  -- ---- graph files

  module _ (path : List ℕ) where
    abbrev graph_read : Result (Head × PlanGraph) Fault
    graph_read = read_graph p files limits start path

    abbrev bytes_read : Result (List ℕ) Fault
    bytes_read = read_bytes p files limits start path

    abbrev Reported : List ℕ → Result (Query × LowerBounds) ProofFault → Type 0
    Reported = Reads p files limits start path

    graph_fault : (fault : Fault) → NotRead fault → FailsGraph (Some files) limits start path p fault → graph_read ≡ Err fault
    graph_fault fault never fails = subst (λ (u : Option Input). graph_in limits p start u (file_at files path) ≡ Err fault) (none_unread fault never) fails.1

    one_graph_fault : (a b : Fault) → NotRead a → NotRead b → FailsGraph (Some files) limits start path p a → FailsGraph (Some files) limits start path p b → a ≡ b
    one_graph_fault a b m n is also = one_err graph_read a b (graph_fault a m is) (graph_fault b n also)

    -- a graph that is read excludes a fault of the file
    of_graph : (P : Head → PlanGraph → Type 0) (fault : Fault) → NotRead fault → FailsGraph (Some files) limits start path p fault → InGraphFile (Some files) limits start path p P → ⊥
    of_graph P fault never fails (head, graph, is, holds) = never_both graph_read (head, graph) fault is.reads (graph_fault fault never fails)

    one_trip_fault : (late : List ℕ) (a b : Fault) (head : Head) (graph : PlanGraph) → IsTripFault p late a head graph → IsTripFault p late b head graph → a ≡ b
    one_trip_fault late a b head graph is also = grind (arith, one_err)

    one_replay_fault : (late : List ℕ) (a b : Fault) → NotRead a → NotRead b → FailsReplay (Some files) limits start path late p a → FailsReplay (Some files) limits start path late p b → a ≡ b
    one_replay_fault late a b m n = search (rules, one_cause, one_graph_fault, of_graph, in_graph, one_trip_fault)

    reported_or_stopped : (late : List ℕ) (found : Findings) (text : List ℕ) (a : Fault) (head : Head) (graph : PlanGraph) → AnswersReplay p late found text head graph → IsTripFault p late a head graph → ⊥
    reported_or_stopped late found text a head graph reported stopped = never_both (trip_by p head graph late) reported.trace stopped.stop reported.trip stopped.trip

    replayed : (late : List ℕ) (found : Findings) (text : List ℕ) (a : Fault) → NotRead a → InGraphFile (Some files) limits start path p (AnswersReplay p late found text)
        → FailsReplay (Some files) limits start path late p a → ⊥
    replayed late found text a m reported (inl is) = of_graph (AnswersReplay p late found text) a m is reported
    replayed late found text a m reported (inr is) = in_graph p files limits start path (AnswersReplay p late found text) (IsTripFault p late a) ⊥ (reported_or_stopped late found text a) reported is

    one_unsafe : (a b : Fault) (head : Head) (graph : PlanGraph) → IsUnsafeGraph p a head graph → IsUnsafeGraph p b head graph → a ≡ b
    one_unsafe a b head graph (place, moment, is, unsafe) (other, later, also, more) = grind arith

    one_score_fault : (a b : Fault) → NotRead a → NotRead b → FailsScore (Some files) limits start path p a → FailsScore (Some files) limits start path p b → a ≡ b
    one_score_fault a b m n = search (rules, one_cause, one_graph_fault, of_graph, in_graph, one_unsafe)

    scored_or_unsafe : (found : Findings) (text : List ℕ) (a : Fault) (head : Head) (graph : PlanGraph) → IsEnclosed p found text head graph → IsUnsafeGraph p a head graph → ⊥
    scored_or_unsafe found text a head graph reported (place, moment, is, unsafe) = unsafe.unsafe reported.scored.safe

    scored : (found : Findings) (text : List ℕ) (a : Fault) → NotRead a → InGraphFile (Some files) limits start path p (IsEnclosed p found text) → FailsScore (Some files) limits start path p a → ⊥
    scored found text a m reported (inl is) = of_graph (IsEnclosed p found text) a m is reported
    scored found text a m reported (inr is) = in_graph p files limits start path (IsEnclosed p found text) (IsUnsafeGraph p a) ⊥ (scored_or_unsafe found text a) reported is

    -- ---- certificate files

    certificate_fault : (fault : Fault) → NotRead fault → FailsCertificate (Some files) limits start path p fault → FailsFile p start bytes_read fault
    certificate_fault fault never fails = subst (λ (u : Option Input). FailsFile p start (bytes_of limits.bytes input.Proof u (file_at files path)) fault) (none_unread fault never) fails.1

    free : (text : List ℕ) (first : ProofFault) → (first ≡ NoRoom → ⊥) → ◌≢◌ {A = Result (Query × LowerBounds) ProofFault} (Err first) (Err NoRoom)
    free text first some is = some (cc)

    one_text_fault : (text : List ℕ) (a b : Fault) → FailsText p start text a → FailsText p start text b → a ≡ b
    one_text_fault text a b (first, is, late) (second, also, after) =
        let never = never_memory p.timetable.network p.timetable.names p.source.0 p.target.0 start (table_of text) first late in
        let neither = never_memory p.timetable.network p.timetable.names p.source.0 p.target.0 start (table_of text) second after in
        let one = read_once p.timetable.network p.timetable.names p.source.0 p.target.0 start text (Err first) (Err second) (inr late) (inr after) (free text first never) (free text second neither) in
        grind arith

    one_file_fault : (r : Result (List ℕ) Fault) (a b : Fault) → FailsFile p start r a → FailsFile p start r b → a ≡ b
    one_file_fault (Ok text) a b is also = one_text_fault text a b is also
    one_file_fault (Err first) a b is also = is ∙ sym also

    -- a text with a fault has no certificate
    text_or_fault : (r : Result (List ℕ) Fault) (text : List ℕ) (q : Query) (certificate : LowerBounds) (a : Fault) → r ≡ Ok text → Reported text (Ok (q, certificate)) → FailsFile p start r a → ⊥
    text_or_fault r text q certificate a there reported fails = grind (arith, never_memory, read_once, free)

    of_certificate : (P : Query → LowerBounds → Type 0) (a : Fault) → NotRead a → FailsCertificate (Some files) limits start path p a → InCertificateFile (Some files) limits start path p P → ⊥
    of_certificate P a m fails (q, certificate, is, holds) = text_or_fault bytes_read is.text q certificate a is.reads is.reports (certificate_fault a m fails)

    one_broken : (a b : Fault) (q : Query) (certificate : LowerBounds) → IsBroken p a q certificate → IsBroken p b q certificate → a ≡ b
    one_broken a b q certificate (c, is, last) (d, also, other) = grind (arith, one_last p.timetable.network p.timetable.valid q certificate.values c.0 d.0 last other)

    one_check_fault : (a b : Fault) → NotRead a → NotRead b → FailsCheck (Some files) limits start path p a → FailsCheck (Some files) limits start path p b → a ≡ b
    one_check_fault a b m n =
        one_cause (λ is also. one_file_fault bytes_read a b (certificate_fault a m is) (certificate_fault b n also)) (of_certificate (IsBroken p b) a m) (of_certificate (IsBroken p a) b n)
        (in_certificate p files limits start path (IsBroken p a) (IsBroken p b) (a ≡ b) (one_broken a b))

    held_or_broken : (found : Findings) (text : List ℕ) (a : Fault) (q : Query) (certificate : LowerBounds) → IsHeld p found text q certificate → IsBroken p a q certificate → ⊥
    held_or_broken found text a q certificate held (c, is, last) = last.fault (held.accepted c.0 last.there last.board)

    checked : (found : Findings) (text : List ℕ) (a : Fault) → NotRead a → InCertificateFile (Some files) limits start path p (IsHeld p found text) → FailsCheck (Some files) limits start path p a → ⊥
    checked found text a m reported (inl is) = of_certificate (IsHeld p found text) a m is reported
    checked found text a m reported (inr is) = in_certificate p files limits start path (IsHeld p found text) (IsBroken p a) ⊥ (held_or_broken found text a) reported is

  -- ---- whatever is asked

  one_no_safe : (a b : Fault) → IsNoSafe p start a → IsNoSafe p start b → a ≡ b
  one_no_safe a b is also = is.0 ∙ sym also.0

  pub one_ask_fault : (ask : AskModel) (a b : Fault) → NotRead a → NotRead b → FailsAsk (Some files) limits start p ask a → FailsAsk (Some files) limits start p ask b → a ≡ b
  one_ask_fault (Replays graph late) a b m n is also = one_replay_fault graph late a b m n is also
  one_ask_fault (CheckProof certificate) a b m n is also = one_check_fault certificate a b m n is also
  one_ask_fault (CheckGraph graph) a b m n is also = one_score_fault graph a b m n is also
  one_ask_fault (Departures until last) a b m n is also = is.0 ∙ sym also.0
  one_ask_fault (Latest until) a b m n is also = is.0 ∙ sym also.0
  one_ask_fault (Reach until) a b m n is also = absurd is
  one_ask_fault _ a b m n is also = one_no_safe a b is also

  -- what has an answer has no fault
  pub answered_or_not : (ask : AskModel) (found : Findings) (text : List ℕ) (a : Fault) → NotRead a → AnswersAsk (Some files) limits start p ask found text → FailsAsk (Some files) limits start p ask a → ⊥
  answered_or_not (Safe alpha) found text a m (q, w, is, reports) fails = not_none p start alpha q w is fails.1
  answered_or_not (Expand alpha) found text a m (q, w, is, reports) fails = not_none p start alpha q w is fails.1
  answered_or_not (Plan alpha) found text a m (q, w, is, reports) fails = not_none p start alpha q w is fails.1
  answered_or_not (Replays graph late) found text a m reported fails = replayed graph late found text a m reported fails
  answered_or_not (Certify alpha) found text a m (q, w, is, reports) fails = not_none p start alpha q w is fails.1
  answered_or_not (CheckProof certificate) found text a m reported fails = checked certificate found text a m reported fails
  answered_or_not (CheckGraph graph) found text a m reported fails = scored graph found text a m reported fails
  answered_or_not (Punctual alpha promise) found text a m (q, w, is, reports) fails = not_none p start alpha q w is fails.1
  answered_or_not (Departures until last) found text a m (rows, is, are, safe, reported) fails = fails.1 safe.0 safe.1
  answered_or_not (Latest until) found text a m (moment, is, greatest, reported) fails = fails.1 moment.0 greatest.0 greatest.1.0 greatest.1.1
  answered_or_not (Reach until) found text a m reached fails = fails

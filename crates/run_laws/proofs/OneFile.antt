-- A graph file has one graph, and a certificate file one certificate; what holds of one that was read holds of another.
use Rattle.run_laws.proofs.Common.{arith, ◌≡◌, ℕ, List, None, Some, Result, Ok, Err, FileMap, file_at, Limits, Query, PlanGraph, Head, LowerBounds, ProofFault, read_once, Fault, Problem}
use Rattle.run_laws.proofs.Common.{bytes_of, graph_in, InGraphFile, InCertificateFile}
use Rattle.lower_proof.specs.Reading.{IsProofRead}
use Rattle.journey_model.specs.declared.faults.Input.TheVariants as input

pub one_ok : {A E : Type 0} (r : Result A E) (a b : A) → r ≡ Ok a → r ≡ Ok b → a ≡ b
one_ok r a b one two = cc

pub one_err : {A E : Type 0} (r : Result A E) (e f : E) → r ≡ Err e → r ≡ Err f → e ≡ f
one_err r e f one two = cc

pub never_both : {A E : Type 0} (r : Result A E) (a : A) (e : E) → r ≡ Ok a → r ≡ Err e → ⊥
never_both r a e one two = cc

module _ (p : Problem) (files : FileMap) (limits : Limits) (start : ℕ) (path : List ℕ) where
  abbrev pub read_graph : Result (Head × PlanGraph) Fault
  read_graph = graph_in limits p start None (file_at files path)

  pub in_graph : (P Q : Head → PlanGraph → Type 0) (R : Type 0) → ((head : Head) (graph : PlanGraph) → P head graph → Q head graph → R)
      → InGraphFile (Some files) limits start path p P → InGraphFile (Some files) limits start path p Q → R
  in_graph P Q R both (head, graph, is, holds) (other, more, also, others) = grind (arith, one_ok, read_graph)

  abbrev pub read_bytes : Result (List ℕ) Fault
  read_bytes = bytes_of limits.bytes input.Proof None (file_at files path)

  abbrev pub Reads : List ℕ → Result (Query × LowerBounds) ProofFault → Type 0
  Reads = IsProofRead p.timetable.network p.timetable.names p.source.0 p.target.0 start

  pub in_certificate : (P Q : Query → LowerBounds → Type 0) (R : Type 0) → ((q : Query) (certificate : LowerBounds) → P q certificate → Q q certificate → R)
      → InCertificateFile (Some files) limits start path p P → InCertificateFile (Some files) limits start path p Q → R
  in_certificate P Q R both (q, certificate, is, holds) (r, more, also, others) =
      grind (arith, one_ok read_bytes also.text is.text also.reads is.reads, read_once p.timetable.network p.timetable.names p.source.0 p.target.0 start is.text (Ok (r, more)) (Ok (q, certificate)))

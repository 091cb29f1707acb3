use Rattle.journey_problem.proofs.Common.{arith, inl, inr, IsOk, IsOkAnd, Result}
use Rattle.table_files.proofs.ReadingLemmas.{reads-value, reads-fault, reads-both, reads-after}
use Rattle.journey_problem.proofs.feed_problem.read_rules.Goals as goal

-- an answer of which something holds is one
ok_by : {T E : Type 0} (r : Result T E) (P : T → Type 0) → IsOkAnd r P → IsOk r
ok_by r P is = grind arith

pub returns-in-Err-clause-reads : goal.returns-in-Err-clause-reads
returns-in-Err-clause-reads g c = reads-fault (λ own. tt) (λ m own first. inl first) c.in-Err.ensures.reads

pub returns-in-Err-read-clause-reads : goal.returns-in-Err-read-clause-reads
returns-in-Err-read-clause-reads g c =
    reads-fault (λ own. tt) (λ m own p. inr (ok_by _ _ p.0, p.1)) (reads-after c.in-Ok.ensures.reads c.in-Err-read.ensures.reads)

pub returns-in-Ok-read-clause-reads : goal.returns-in-Ok-read-clause-reads
returns-in-Ok-read-clause-reads g c = reads-value (λ m p. p) (reads-both c.in-Ok.ensures.reads c.in-Ok-read.ensures.reads)

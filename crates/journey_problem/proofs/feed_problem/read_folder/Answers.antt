use Rattle.journey_problem.proofs.Common.{arith, inl, inr}
use Rattle.table_files.proofs.ReadingLemmas.{reads-value, reads-fault, reads-both, reads-after}
use Rattle.journey_problem.proofs.feed_problem.read_folder.Goals as goal

pub returns-in-Err-clause-reads : goal.returns-in-Err-clause-reads
returns-in-Err-clause-reads g c = reads-fault (λ own. tt) (λ m own first. inl first) c.in-Err.ensures

pub returns-in-Err-read_rules-clause-reads : goal.returns-in-Err-read_rules-clause-reads
returns-in-Err-read_rules-clause-reads g c =
    reads-fault (λ own. tt) (λ m own p. inr (c.in-Ok.feed, p.0, p.1)) (reads-after c.in-Ok.ensures c.in-Err-read_rules.ensures.reads)

pub returns-in-Ok-read_rules-clause-reads : goal.returns-in-Ok-read_rules-clause-reads
returns-in-Ok-read_rules-clause-reads g c =
    reads-value (λ m p. record { feed = p.0; services = p.1.0; changes = p.1.1 }) (reads-both c.in-Ok.ensures c.in-Ok-read_rules.ensures.reads)

pub returns-in-Ok-read_rules-clause-sound : goal.returns-in-Ok-read_rules-clause-sound
returns-in-Ok-read_rules-clause-sound g c = grind arith

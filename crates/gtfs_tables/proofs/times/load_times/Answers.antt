use Rattle.gtfs_tables.proofs.{Common.{IsFeedTable, own-of, Frequencies, reads-raised, reads-value, reads-fault, reads-both, reads-after, arith}, FeedLemmas.{fault_at_times, fault_at_repeats}}
use Rattle.gtfs_tables.proofs.times.load_times.Goals as goal

pub returns-in_err-visits-clause-reads : goal.returns-in_err-visits-clause-reads
returns-in_err-visits-clause-reads g c = grind (arith, reads-raised, reads-fault, own-of, fault_at_times)

pub returns-in_err-repeats-clause-reads : goal.returns-in_err-repeats-clause-reads
returns-in_err-repeats-clause-reads g c = reads-raised c.from_residual-in_err-repeats.result c.from_residual-in_err-repeats.ensures
    (reads-fault (own-of IsFeedTable Frequencies _ tt) (λ m own p. fault_at_repeats m c.args.folder.now c.args.limits.now c.args.lists.now _ _ own p.0 p.1)
    (reads-after c.in_ok-visits.ensures.reads c.in_err-repeats.ensures.reads))

pub returns-clause-reads : goal.returns-clause-reads
returns-clause-reads g c = reads-value (λ m p. record { visits = p.0; repeats = p.1 }) (reads-both c.in_ok-visits.ensures.reads c.in_ok-repeats.ensures.reads)

pub returns-clause-sound : goal.returns-clause-sound
returns-clause-sound g c = grind arith

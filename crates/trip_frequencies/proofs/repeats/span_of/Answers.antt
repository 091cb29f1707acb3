use Rattle.trip_frequencies.proofs.{Common.{ℕ, leb, ltb, rules, IsPartitionPoint-from_clause, IsPartitionedBy-leb, IsPartitionedBy-ltb}, RepeatLemmas.span_is}
use Rattle.trip_frequencies.proofs.repeats.span_of.Goals as goal

pub returns : goal.returns
returns c =
    let trips = c.args.trips.now in
    let trip = c.args.trip in
    let first = IsPartitionPoint-from_clause (λ (t : ℕ). ltb t trip) trips _ c.partition_point-start.ensures.partitioned
    (IsPartitionedBy-ltb (λ (t : ℕ). t) trips trip c.requires) (λ a r q k. search rules) in
    let last = IsPartitionPoint-from_clause (λ (t : ℕ). leb t trip) trips _ c.partition_point-end.ensures.partitioned
    (IsPartitionedBy-leb (λ (t : ℕ). t) trips trip c.requires) (λ a r q k. search rules) in
    span_is trips trip _ _ c.partition_point-start.ensures.bound c.partition_point-end.ensures.bound first last

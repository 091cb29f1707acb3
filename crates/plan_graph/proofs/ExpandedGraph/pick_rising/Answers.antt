use Rattle.plan_graph.proofs.{Common.{rules, arith, sym, ap, ◌∙◌, IsPartitionPoint-from_clause, Ride, leg_lt, get_or_default}, Searches.{rides_parted, pick_after-at, pick_after-none, leg_same}}
use Rattle.plan_graph.proofs.Searches.{leg_other}
use Rattle.plan_graph.proofs.ExpandedGraph.pick_rising.Goals as goal

pub returns-then-at-rides : goal.returns-then-at-rides
returns-then-at-rides c =
    let same = c.as_slice-rides.ensures in
    let point = IsPartitionPoint-from_clause (λ x. leg_lt x.leg c.args.leg) _ _ c.partition_point-at.ensures.partitioned
    (rides_parted c.args.self.now.rides c.as_slice-rides.result.now c.args.leg same c.requires) (λ a r q k. search rules) in
    sym (pick_after-none c.args.self.now.rides c.as_slice-rides.result.now c.args.leg c.args.arrival.0 c.partition_point-at.result same c.requires
    point (λ d within is. omega (arith, within, c.if-at-rides.true)))

pub returns-then-ne : goal.returns-then-ne
returns-then-ne c =
    let same = c.as_slice-rides.ensures in
    let point = IsPartitionPoint-from_clause (λ x. leg_lt x.leg c.args.leg) _ _ c.partition_point-at.ensures.partitioned
    (rides_parted c.args.self.now.rides c.as_slice-rides.result.now c.args.leg same c.requires) (λ a r q k. search rules) in
    let own = c.index-rides-at.result in
    sym (pick_after-none c.args.self.now.rides c.as_slice-rides.result.now c.args.leg c.args.arrival.0 c.partition_point-at.result same c.requires point (λ d within is.
    leg_other own.leg c.args.leg c.ne.result c.ne.ensures c.if-ne.true
    (ap (λ (x : Ride). x.leg) (c.index-rides-at.is ∙ get_or_default c.as_slice-rides.result.now c.partition_point-at.result own d within) ∙ is)))

pub returns : goal.returns
returns c =
    let same = c.as_slice-rides.ensures in
    let point = IsPartitionPoint-from_clause (λ x. leg_lt x.leg c.args.leg) _ _ c.partition_point-at.ensures.partitioned
    (rides_parted c.args.self.now.rides c.as_slice-rides.result.now c.args.leg same c.requires) (λ a r q k. search rules) in
    grind (arith, leg_same, pick_after-at)

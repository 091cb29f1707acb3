use Rattle.graph_prune.proofs.{Pruned.{unfolds, pruned, follows_on, between_ready}, Sources.rising}
use Rattle.graph_prune.proofs.prune.Goals as goal

pub invariant_of-choice : goal.invariant_of-choice
invariant_of-choice c = record { rising = rising c.args.network.now c.args.query.now c.args.graph.now c.requires }

pub rides_by_limits-requires : goal.rides_by_limits-requires
rides_by_limits-requires c = rw c.as_slice.ensures
    (between_ready c.args.network.now c.in_ok-walked-in-Some.ensures.valid c.args.query.now c.args.graph.now c.requires c.in-Some.start c.in-Some.is
    c.in_ok-walked-in-Some.walked c.in_ok-walked-in-Some.ensures.walked).rides

pub returns-in_ok-rides-in-Some-clause-unfolds : goal.returns-in_ok-rides-in-Some-clause-unfolds
returns-in_ok-rides-in-Some-clause-unfolds c = rw (c.in_ok-rides-in-Some.ensures, c.as_slice.ensures)
    (unfolds c.args.network.now c.in_ok-walked-in-Some.ensures.valid c.args.query.now c.args.graph.now c.requires c.in-Some.start c.in-Some.is
    c.in_ok-walked-in-Some.walked c.in_ok-walked-in-Some.ensures.walked)

pub returns-in_ok-rides-in-Some-clause-pruned : goal.returns-in_ok-rides-in-Some-clause-pruned
returns-in_ok-rides-in-Some-clause-pruned c = rw (c.in_ok-rides-in-Some.ensures, c.as_slice.ensures)
    (pruned c.args.network.now c.in_ok-walked-in-Some.ensures.valid c.args.query.now c.args.graph.now c.requires c.in-Some.start c.in-Some.is
    c.in_ok-walked-in-Some.walked c.in_ok-walked-in-Some.ensures.walked)

pub returns-in_ok-rides-in-Some-clause-follows : goal.returns-in_ok-rides-in-Some-clause-follows
returns-in_ok-rides-in-Some-clause-follows c = rw (c.in_ok-rides-in-Some.ensures, c.as_slice.ensures)
    (follows_on c.args.network.now c.in_ok-walked-in-Some.ensures.valid c.args.query.now c.args.graph.now c.requires c.in-Some.start c.in-Some.is
    c.in_ok-walked-in-Some.walked c.in_ok-walked-in-Some.ensures.walked)

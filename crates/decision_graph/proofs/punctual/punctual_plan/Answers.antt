use Rattle.decision_graph.proofs.Common.{◌≡◌, Option, Some, None, MatchOption, sym, subst, MatchOption-at_some, PlanGraph, IsNoneSafe, IsLeastChance}
use Rattle.late_chance.specs.Punctual.{IsPunctual, seen_for, asked_for}
use Rattle.decision_graph.proofs.punctual.punctual_plan.Goals as goal

match_none : {A : Type 0} (o : Option A) (N : Type 0) (P : A → Type 0) → o ≡ None → MatchOption o N P → N
match_none None N P is n = n
match_none (Some a) N P is p = absurd (cc)

pub returns-in_default : goal.returns-in_default
returns-in_default c =
    let p = c.args.promise.now in
    let reports = c.punctual_by_shift.ensures c.args.network.now p c.in_ok-found.ensures.valid in
    reports.none (match_none c.in_ok-found.field-0 (IsNoneSafe (seen_for c.args.network.now p.query p.moment.0) (asked_for p.query p.moment.0)) _ c.in_default.is c.in_ok-found.ensures.plan)

pub unshifted-requires : goal.unshifted-requires
unshifted-requires c =
    let reports = c.punctual_by_shift.ensures c.args.network.now c.args.promise.now c.in_ok-found.ensures.valid in
    reports.in_range c.in-Some.found.graph (MatchOption-at_some _ _ _ c.in-Some.is c.in_ok-found.ensures.plan).punctual.tidy

pub returns : goal.returns
returns c =
    let p = c.args.promise.now in
    let n = c.args.network.now in
    let reports = c.punctual_by_shift.ensures n p c.in_ok-found.ensures.valid in
    let chance = c.in-Some.found.value in
    let least : IsLeastChance (seen_for n p.query p.moment.0) (asked_for p.query p.moment.0) c.in-Some.found.graph chance = MatchOption-at_some _ _ _ c.in-Some.is c.in_ok-found.ensures.plan in (
      subst (λ (g : PlanGraph). IsPunctual n p.query p.moment.0 g chance) (sym c.in_ok-graph.ensures) (reports.graphs c.in-Some.found.graph chance least.punctual),
      record { seen = c.in-Some.found.graph; least = least; later = c.in_ok-graph.ensures },
    )

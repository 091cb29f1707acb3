use Rattle.std.proofs.Common.{refl}
use Rattle.plan_model.specs.Bounds.{last_moment}
use Rattle.plan_model.proofs.Laws.{LeastWorst-at_target}
use Rattle.safe_arrival.proofs.Least.{least_by_last, not_before, not_late}
use Rattle.safe_arrival.proofs.reserved_worst.Goals as goal

pub returns-then-source-target-clause-least : goal.returns-then-source-target-clause-least
returns-then-source-target-clause-least g c = LeastWorst-at_target c.args.network.now c.args.source.0 c.args.target.0 c.args.start c.if-source-target.true

pub returns-then-is_some-clause-order : goal.returns-then-is_some-clause-order
returns-then-is_some-clause-order g c =
    let found = c.in_ok-found in
    not_before c.args.network.now found.ensures.valid c.args.source.0 c.args.target.0 c.args.start.0 _ found.found found.ensures.least

pub returns-then-is_some-clause-early : goal.returns-then-is_some-clause-early
returns-then-is_some-clause-early g c =
    let found = c.in_ok-found in
    not_late c.args.network.now found.ensures.valid c.args.source.0 c.args.target.0 c.args.start.0 _ found.found c.requires.start found.ensures.least

pub returns-clause-least : goal.returns-clause-least
returns-clause-least g c =
    let last = c.in_ok-worst in
    least_by_last c.args.network.now last.ensures.valid
    (record {
      source = c.args.source;
      target = c.args.target;
      start = c.args.start;
      deadline =
          record { 0 = last_moment };
    }) c.requires.start refl last.worst last.ensures.least

pub returns-clause-order : goal.returns-clause-order
returns-clause-order g c =
    let last = c.in_ok-worst in
    not_before c.args.network.now last.ensures.valid c.args.source.0 c.args.target.0 c.args.start.0 _ last.worst last.ensures.least

pub returns-clause-early : goal.returns-clause-early
returns-clause-early g c =
    let last = c.in_ok-worst in
    not_late c.args.network.now last.ensures.valid c.args.source.0 c.args.target.0 c.args.start.0 _ last.worst c.requires.start last.ensures.least

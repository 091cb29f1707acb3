use Rattle.std.proofs.Common.{refl}
use Rattle.plan_model.specs.Bounds.{last_moment}
use Rattle.plan_model.proofs.Laws.{LeastWorst-at_target}
use Rattle.safe_arrival.proofs.Least.{least_by_last, not_before, not_late}
use Rattle.meat_scan.proofs.Reserves.{fits_any}
use Rattle.safe_arrival.proofs.least_worst.Goals as goal

pub least_worst_by-requires-clause-tables_fit : goal.least_worst_by-requires-clause-tables_fit
least_worst_by-requires-clause-tables_fit g c = fits_any c.args.network.now _ c.args.tables c.requires.tables_fit

pub returns-then-source-target-clause-least : goal.returns-then-source-target-clause-least
returns-then-source-target-clause-least g c = LeastWorst-at_target c.args.network.now c.args.source.0 c.args.target.0 c.args.start c.if-source-target.true

pub returns-clause-least : goal.returns-clause-least
returns-clause-least g c =
    let found = c.least_worst_by in
    least_by_last c.args.network.now found.ensures.valid
    (record {
      source = c.args.source;
      target = c.args.target;
      start = c.args.start;
      deadline =
          record { 0 = last_moment };
    }) c.requires.start refl found.result found.ensures.least

pub returns-clause-order : goal.returns-clause-order
returns-clause-order g c =
    let found = c.least_worst_by in
    not_before c.args.network.now found.ensures.valid c.args.source.0 c.args.target.0 c.args.start.0 _ found.result found.ensures.least

pub returns-clause-early : goal.returns-clause-early
returns-clause-early g c =
    let found = c.least_worst_by in
    not_late c.args.network.now found.ensures.valid c.args.source.0 c.args.target.0 c.args.start.0 _ found.result c.requires.start found.ensures.least

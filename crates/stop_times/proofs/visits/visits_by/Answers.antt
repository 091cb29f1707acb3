use Rattle.stop_times.proofs.Common.{sym, ◌∙◌, list_below-zero, list_below-next, visit_at}
use Rattle.stop_times.proofs.visits.visits_by.Goals as goal

pub loop-k-init : goal.loop-k-init
loop-k-init c = c.in_ok-visits.ensures.items ∙ sym (list_below-zero (visit_at c.args.rows.now c.args.keys.now))

pub loop-k-preserved : goal.loop-k-preserved
loop-k-preserved c =
    list_below-next (visit_at c.args.rows.now c.args.keys.now) c.loop-k.k c.loop-k.visits.items c.push.new.self.items c.visit_at.result
    c.loop-k.invariant c.in_ok-push.ensures.items c.visit_at.ensures

use Rattle.change_times.proofs.Common.{◌≡◌, ◌+◌, None, refl, is_none, nat_eq, sym, ap, ◌∙◌, arith, match_raised, fault-at, bad_transfer, transfer_reported_by, seconds_between, link_between, walks_of}
use Rattle.change_times.proofs.{Common.{most_to, greatest_link}, ChangeLemmas.{transfer_is, count-next, one_at_most, short_between, short_link}, GreatestLemmas.{greatest-next, short_next}}
use Rattle.std.specs.{HashMap.get, Result.result_err}
use Rattle.plan_model.specs.Results.{value_or}
use Rattle.csv_rows.proofs.FirstLemmas.{first-zero, first-next}
use Rattle.change_times.proofs.changes.collect.Goals as goal

pub loop-i-init : goal.loop-i-init
loop-i-init c = record { reported = c.requires; none = first-zero (bad_transfer c.args.feed.now c.args.rows.now) }

pub returns-in_err-transfer-clause-reports : goal.returns-in_err-transfer-clause-reports
returns-in_err-transfer-clause-reports c = match_raised _ _ c.from_residual.result c.from_residual.ensures
    (fault-at _ c.loop-i.i _ (omega arith) c.loop-i.invariant.none
    (ap result_err (transfer_is c.args.feed.now c.args.rows.now _ c.loop-i.i c.transfer_columns-columns.ensures)) c.in_err-transfer.ensures.reports)

pub returns-clause-reported : goal.returns-clause-reported
returns-clause-reported c = grind arith

pub loop-i-preserved : goal.loop-i-preserved
loop-i-preserved c =
    let feed = c.args.feed.now in
    let t = c.args.rows.now in
    let i = c.loop-i.i in
    let old = c.loop-i.invariant.reported in
    let here = transfer_is feed t _ i c.transfer_columns-columns.ensures ∙ c.in_ok-transfer.ensures.transfer in
    let reported : transfer_reported_by feed t i ≡ c.in_ok-transfer.transfer = ap (value_or None) here in
    let step = c.in_ok-note.ensures in
    let old_reported = c.loop-i.reported in
    let new_reported = c.note.new.reported in
    record {
      reported = record {
        size = step.size ∙ old.size;
        seconds = λ place.
            greatest-next (λ k. seconds_between place place (transfer_reported_by feed t k)) i (get nat_eq old_reported.seconds place)
            (get nat_eq new_reported.seconds place)
            (seconds_between place place c.in_ok-transfer.transfer) (old.seconds place) (step.seconds place) (ap (seconds_between place place) reported);
        walks = λ from to.
            greatest-next (λ k. link_between from to (transfer_reported_by feed t k)) i (most_to to (walks_of old_reported.walks.items from))
            (most_to to (walks_of new_reported.walks.items from))
            (link_between from to c.in_ok-transfer.transfer) (old.walks from to) (step.walks from to) (ap (link_between from to) reported);
        short = λ place.
            short_next (get nat_eq old_reported.seconds place) (get nat_eq new_reported.seconds place)
            (seconds_between place place c.in_ok-transfer.transfer) (old.short place)
            (short_between place place c.in_ok-transfer.transfer c.in_ok-transfer.ensures.short) (step.seconds place);
        brief = λ from to.
            short_next (greatest_link feed t i from to) (greatest_link feed t (i + 1) from to) (link_between from to c.in_ok-transfer.transfer)
            (old.brief from to)
            (short_link from to c.in_ok-transfer.transfer c.in_ok-transfer.ensures.short)
            (sym (greatest-next (λ k. link_between from to (transfer_reported_by feed t k)) i (greatest_link feed t i from to) _
            (link_between from to c.in_ok-transfer.transfer) refl refl (ap (link_between from to) reported)));
        passed = count-next is_none (transfer_reported_by feed t) i old_reported.passed new_reported.passed c.in_ok-transfer.transfer old.passed
            step.passed reported;
        few = omega (arith, old.few, step.passed, one_at_most (is_none c.in_ok-transfer.transfer));
      };
      none = first-next (bad_transfer feed t) i None c.loop-i.invariant.none (ap result_err here);
    }

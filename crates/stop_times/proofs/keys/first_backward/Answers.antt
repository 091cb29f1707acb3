use Rattle.stop_times.proofs.Common.{ℕ, true, sym, ap, ◌∙◌, length, arith, option_map, Some, FeedFault, before_inside, soonest-next, soonest-first, trip_of, sequence_of, backward_time, is_taken}
use Rattle.stop_times.proofs.BackLemmas.{back_is, quiet}
use Rattle.stop_times.proofs.keys.first_backward.Goals as goal

pub loop-k-preserved : goal.loop-k-preserved
loop-k-preserved c = λ none.
    let k = c.loop-k.k in
    let rows = c.args.rows.now in
    soonest-next (backward_time rows) (length rows) c.args.keys.now k c.loop-k.first c.sooner-first.result (Some c.in-Some.fault) (c.requires.inside k (omega arith))
    (back_is rows c.args.keys.now c.requires none k (omega arith) c.before_at.result c.before_at.ensures ∙ sym c.backward.ensures ∙ c.in-Some.is) c.sooner-first.ensures (c.loop-k.invariant none)

pub loop-k-preserved-in_default : goal.loop-k-preserved-in_default
loop-k-preserved-in_default c = λ none. grind (arith, soonest-next, back_is)

pub backward-requires-clause-row : goal.backward-requires-clause-row
backward-requires-clause-row c = c.requires.inside c.loop-k.k (omega arith)

pub backward-requires-clause-before : goal.backward-requires-clause-before
backward-requires-clause-before c = grind (arith, before_inside)

pub returns-in-None : goal.returns-in-None
returns-in-None c = λ none.
    let rows = c.args.rows.now in
    soonest-first (backward_time rows) (length rows) c.args.keys.now (is_taken true rows) (trip_of rows) (sequence_of rows) c.requires (quiet rows) c.loop-k.k (omega arith)
    c.loop-k.first (c.loop-k.invariant none) ∙ ap (option_map (λ (x : ℕ × FeedFault). x.1)) c.in-None.is

pub returns-in-Some-first : goal.returns-in-Some-first
returns-in-Some-first c = λ none.
    let rows = c.args.rows.now in
    soonest-first (backward_time rows) (length rows) c.args.keys.now (is_taken true rows) (trip_of rows) (sequence_of rows) c.requires (quiet rows) c.loop-k.k (omega arith)
    c.loop-k.first (c.loop-k.invariant none) ∙ ap (option_map (λ (x : ℕ × FeedFault). x.1)) c.in-Some-first.is

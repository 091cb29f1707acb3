use Rattle.connections.proofs.Common.{◌≡◌, ℕ, ◌+◌, ◌-◌, ◌<◌, ◌++◌, max, Bool, false, List, length, sym, ap, ◌∙◌, subst, arith, append_assoc, append-nil, list_below, Repeat, only_if, repeat_of}
use Rattle.connections.proofs.{JoinLemmas.join-zero, RepeatLemmas.{AreTaken, AreLeaving, taken_runs, more, none_taken, step_taken, step_list, all_taken}}
use Rattle.connections.proofs.repeats.add_row_repeats.Goals as goal

pub loop-step-init : goal.loop-step-init
loop-step-init c =
    let w = c.args.trip.now.window in let rows = c.args.trip.now.rows.now in let day = c.args.trip.now.day in let row = c.args.row.now in
    let none : ℕ → Bool = λ m. false in
    let old = c.args.repeats.now.items in (
      none,
      subst (λ k. AreTaken w rows day row k 0 none) (sym c.saturating_sub-step.ensures) (none_taken w rows day row),
      sym (ap (λ (xs : List Repeat). old ++ xs) (join-zero (λ m. only_if (none m) (repeat_of row m))) ∙ append-nil old),
    )

pub loop-step-preserved : goal.loop-step-preserved
loop-step-preserved c =
    let w = c.args.trip.now.window in let rows = c.args.trip.now.rows.now in let day = c.args.trip.now.day in let row = c.args.row.now in
    let t = c.loop-step.invariant in
    let taken = t.0 in
    let k = c.loop-step.step - 1 in
    let next = c.loop-step.next in
    let from = c.leaving-from.result.0 in let to = c.leaving-from.result.1 in
    let back : c.loop-step.step ≡ k + 1 = omega (arith, c.loop-step-test.true) in
    let inside : k < length rows - 1 = omega (arith, c.loop-step-test.true, c.loop-step.auto.step, c.saturating_sub-step.ensures) in
    let before = subst (λ n. AreTaken w rows day row n next taken) back t.1 in
    let leaving : AreLeaving w rows day row k from to = record { before = c.leaving-from.ensures.before; up_to = c.leaving-from.ensures.up_to } in
    let old = c.args.repeats.now.items in
    let list : ℕ → List Repeat = λ n. list_below (λ i. repeat_of row (n + i)) (to - n) in (
      more next from taken,
      subst (λ n. AreTaken w rows day row k n (more next from taken)) (sym c.max-next.ensures)
          (step_taken w rows day row c.args.trip.now.departures c.requires k next from to taken inside leaving before),
      c.in_ok-add_between.ensures
          ∙ ap (λ (n : ℕ). c.loop-step.repeats.items ++ list n) c.max.ensures
          ∙ ap (λ (xs : List Repeat). xs ++ list (max from next)) t.2
          ∙ append_assoc old (taken_runs row taken next) (list (max from next))
          ∙ ap (λ (xs : List Repeat). old ++ xs) (sym (step_list w rows day row c.args.trip.now.departures c.requires k next from to taken inside leaving before))
          ∙ ap (λ (n : ℕ). old ++ taken_runs row (more next from taken) n) (sym c.max-next.ensures),
    )

pub returns : goal.returns
returns c = grind (arith, all_taken)

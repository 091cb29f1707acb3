use Rattle.connections.proofs.{Common.{◌≡◌, ℕ, Bool, ◌++◌}, RepeatLemmas.{AreTaken, taken_runs}}
use Rattle.connections.proofs.repeats.add_row_repeats.Given as goal

abbrev pub invariant-loop-step : goal.invariant-loop-step
invariant-loop-step l =
    (taken : ℕ → Bool) × AreTaken l.trip.window l.trip.rows.now l.trip.day l.row l.step l.next taken × (l.repeats.items ≡ l.initial.repeats.items ++ taken_runs l.row taken l.next)

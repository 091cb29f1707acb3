use Rattle.connections.proofs.Common.{◌≡◌, ◌+◌, ◌++◌, list_below, repeat_of}
use Rattle.connections.proofs.repeats.add_between.Given as goal

abbrev pub invariant-loop-i : goal.invariant-loop-i
invariant-loop-i l = l.repeats.items ≡ l.initial.repeats.items ++ list_below (λ i. repeat_of l.row (l.from + i)) l.i

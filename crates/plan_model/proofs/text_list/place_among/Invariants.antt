use Rattle.plan_model.proofs.Common.{◌≡◌, ℕ, ◌<◌, get_or, [], texts}
use Rattle.plan_model.proofs.text_list.place_among.Given as goal

abbrev pub invariant-loop-i : goal.invariant-loop-i
invariant-loop-i l = (k : ℕ) → k < l.i → get_or (texts l.strings) k [] ≡ l.text → ⊥

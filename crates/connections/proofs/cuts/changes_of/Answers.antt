-- The change seconds of places, one after the other.
use Rattle.connections.proofs.{Common.{arith, ◌≡◌, ℕ, ◌≤◌, List, [], ◌∷◌, ◌++◌, length-append, cases_lt, get_or_append_left, get_or_push, AreChanges}, JoinLemmas.list_steps}
use Rattle.connections.proofs.cuts.changes_of.Goals as goal

pub changes-next : (old new : List ℕ) (x : ℕ) → AreChanges old → new ≡ old ++ x ∷ [] → 1 ≤ x → x ≤ 86400 → AreChanges new
changes-next old new x a e least most = grind (arith, length-append, get_or_append_left, get_or_push, cases_lt)

pub loop-place-preserved : goal.loop-place-preserved
loop-place-preserved c = (
  grind (arith, list_steps, c.in_ok-push.ensures.ok),
  changes-next c.loop-place.change c.push.new.self c.seconds.result c.loop-place.invariant.1 c.in_ok-push.ensures.ok c.seconds.ensures.least c.seconds.ensures.most,
)

use Rattle.change_times.proofs.Common.{◌≡◌, ◌<◌, ◌++◌, ℕ, List, length, take, Way, link_from, ways_at, ComeBefore, most_to}
use Rattle.change_times.proofs.links.put_walks.Given as goal

abbrev pub invariant-loop-walk : goal.invariant-loop-walk
invariant-loop-walk l = record {
  size : length l.links.items ≡ length l.initial.links.items;
  ways : (to : ℕ) (base : List Way) → to < length l.initial.links.items → ComeBefore base l.from → ways_at l.initial.links.items to ≡ base
      → ways_at l.links.items to ≡ base ++ link_from l.from (most_to to (take l.walk-index l.walks));
}

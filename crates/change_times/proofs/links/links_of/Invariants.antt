use Rattle.change_times.proofs.Common.{◌≡◌, ◌<◌, ℕ, length, ways_at, ways_below, walks_of, most_to}
use Rattle.change_times.proofs.links.links_of.Given as goal

abbrev pub invariant-loop-from : goal.invariant-loop-from
invariant-loop-from l = record {
  size : length l.links.items ≡ length l.walks;
  ways : (to : ℕ) → to < length l.walks → ways_at l.links.items to ≡ ways_below (λ from. most_to to (walks_of l.walks from)) l.from;
}

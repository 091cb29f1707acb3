-- Plans by one deadline and by another.
use Rattle.decision_graph.proofs.Common.{◌≡◌, ℕ, ◌*◌, ◌^◌, ◌<◌, ◌≤◌, Some, arith, Interval, NetworkModel, Query, IsLeastWorst, Tree, worst, height, PlanGraph, unfold_plan, IsBest, IsPlanned}
use Rattle.std.proofs.{lemmas.Bool.cases_lt, Math.Nat.one-le-pow}
use Rattle.plan_model.specs.Expected.{Below, Covers}
use Rattle.plan_model.proofs.Laws.{reaches_from_safe, safe_from_reaches}

pub worst_kept : (n : NetworkModel) (q : Query) (graph : PlanGraph) (bounds : Interval) → IsPlanned n q graph bounds
    → IsLeastWorst n q.source.0 q.target.0 q.start.0 (Some q.deadline) → worst (unfold_plan graph n q) ≡ q.deadline.0
worst_kept n q graph bounds planned least = grind (arith, reaches_from_safe)

-- a number above zero, times which one is at most another only where it is at most the other
cancel : (a b p : ℕ) → 0 < p → a * p ≤ b * p → a ≤ b
cancel a b p some less = grind (arith, cases_lt)

-- what is below a strategy is at most what covers it
pub below_covers : (lo hi : ℕ) (t : Tree) → Below lo t → Covers hi t → lo ≤ hi
below_covers lo hi t below covers =
    let h = height t in
    let some : 1 ≤ 10000 ^ h = one-le-pow h 10000 (omega arith) in
    cancel lo hi (10000 ^ h) some (omega (arith, below h (omega arith), covers h (omega arith)))

pub no_worse : (n : NetworkModel) (q r : Query) (graph other : PlanGraph) (bounds later : Interval) → IsPlanned n q graph bounds → IsPlanned n r other later
    → r.source.0 ≡ q.source.0 → r.target.0 ≡ q.target.0 → r.start.0 ≡ q.start.0 → q.deadline.0 ≤ r.deadline.0 → later.hi ≤ bounds.hi
no_worse n q r graph other bounds later one two source target start less = grind (arith, reaches_from_safe, safe_from_reaches)

-- the least mean rounded up is one
pub one_upper : (n : NetworkModel) (q : Query) (t u : Tree) (bounds others : Interval) → IsBest n q t bounds → IsBest n q u others → bounds.hi ≡ others.hi
one_upper n q t u bounds others one two = omega (arith, one.least_up u two.safe, two.least_up t one.safe, one.rounded, two.rounded)

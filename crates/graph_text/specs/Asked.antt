-- The question that a head is of.
use Rattle.std.specs.Prelude.{◌≡◌, ℕ, ◌≤◌}
use Rattle.graph_text.specs.declared.Head.{Head}

-- the head is of this source, target and start, which is not after its deadline, and its bounds are in order
pub record IsHeadOf (from to since : ℕ) (head : Head) : Type 0 where
  pub source : head.query.source.0 ≡ from
  pub target : head.query.target.0 ≡ to
  pub start : head.query.start.0 ≡ since
  pub in_time : since ≤ head.query.deadline.0
  pub bounds : head.bounds.lo ≤ head.bounds.hi

use Rattle.late_chance.proofs.Common.{◌≡◌, ◌≤◌, map, take, All, certainty, itself}
use Rattle.arrayvec.specs.ArrayVec.{array_vec_len}
use Rattle.late_chance.proofs.chance.LateChanceScore.blend.Given as goal

abbrev pub invariant-loop-child : goal.invariant-loop-child
invariant-loop-child l = record {
  copied : l.spans.items ≡ map itself (take l.child-index l.kids);
  count : array_vec_len l.spans ≡ l.child-index;
  within : All (λ s. s.hi ≤ certainty) l.spans.items;
}

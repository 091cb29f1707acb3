use Rattle.journey_answers.proofs.{Common.arith, Sought.{none_is_safe, match_none}}
use Rattle.journey_answers.proofs.answers.expanded_of.Goals as goal

pub unreachable-requires : goal.unreachable-requires
unreachable-requires g c = grind (arith, none_is_safe, match_none)

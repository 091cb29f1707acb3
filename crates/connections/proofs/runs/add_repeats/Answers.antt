use Rattle.connections.proofs.{Common.{All-get_or, arith}, RepeatLemmas.{repeats_early, repeats_some}}
use Rattle.connections.proofs.runs.add_repeats.Goals as goal

pub origin_at-requires : goal.origin_at-requires
origin_at-requires c = grind (arith, repeats_some, All-get_or, repeats_early)

use Rattle.lower_proof.proofs.Best.{sound_values}
use Rattle.lower_proof.proofs.laws.each_value_is_a_bound.Goals as goal

pub returns : goal.returns
returns c = sound_values

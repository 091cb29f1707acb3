use Rattle.late_chance.proofs.Punctual.{punctual_alike}
use Rattle.late_chance.proofs.punctual_in_view.Goals as goal

pub returns : goal.returns
returns c = punctual_alike

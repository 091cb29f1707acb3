use Rattle.late_chance.proofs.Shifts.{reports}
use Rattle.late_chance.proofs.punctual_by_shift.Goals as goal

pub returns : goal.returns
returns c = λ m p v. reports m p.query p.moment.0 v p.early p.order p.week p.later p.soon

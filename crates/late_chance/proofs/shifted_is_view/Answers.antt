use Rattle.late_chance.proofs.{Common.shifted_parts, SeenFrom.{valid, view}}
use Rattle.plan_model.proofs.Views.{alike}
use Rattle.late_chance.proofs.shifted_is_view.Goals as goal

pub returns-clause-valid : goal.returns-clause-valid
returns-clause-valid c = valid

pub returns-clause-view : goal.returns-clause-view
returns-clause-view c = view

pub returns-clause-alike : goal.returns-clause-alike
returns-clause-alike c = λ shift start m v soon. alike (shifted_parts shift start m) m shift start (view shift start m soon) v

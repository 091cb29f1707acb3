use Rattle.plan_model.proofs.{Common.rules, Later.{below-later, below-sooner, covers-later, covers-sooner, late-later}}
use Rattle.plan_model.proofs.view.late_by_view.Goals as goal

pub returns-clause-below : goal.returns-clause-below
returns-clause-below c = search (rules, below-later, late-later, below-sooner)

pub returns-clause-covers : goal.returns-clause-covers
returns-clause-covers c = search (rules, covers-later, late-later, covers-sooner)

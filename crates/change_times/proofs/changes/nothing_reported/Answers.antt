use Rattle.change_times.proofs.{Common.{sym, ◌∙◌, refl}, ChangeLemmas.reported_none}
use Rattle.change_times.proofs.changes.nothing_reported.Goals as goal

pub returns : goal.returns
returns c = λ feed t e. reported_none feed t _ (c.in_ok-walks.ensures.size ∙ sym e) c.in_ok-walks.ensures.none c.with_hasher.ensures.empty refl

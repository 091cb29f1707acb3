use Rattle.change_times.proofs.Common.{ℕ, subst, ChangeParts, links_of, AreLinksInto}
use Rattle.change_times.proofs.changes.Changes.links_into.Goals as goal

abbrev AreOf : ChangeParts → Type 0
AreOf p = (to : ℕ) → AreLinksInto 4294967296 to (links_of p to)

pub returns-in-Some-clause-sound : goal.returns-in-Some-clause-sound
returns-in-Some-clause-sound c = subst AreOf c.self.view_is c.self.invariant.links

pub returns-in-None-clause-sound : goal.returns-in-None-clause-sound
returns-in-None-clause-sound c = subst AreOf c.self.view_is c.self.invariant.links

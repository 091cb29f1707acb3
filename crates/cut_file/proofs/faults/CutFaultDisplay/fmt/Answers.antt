use Rattle.cut_file.proofs.faults.CutFaultDisplay.fmt.Goals as goal

pub returns-in-BadField-clause-writes : goal.returns-in-BadField-clause-writes
returns-in-BadField-clause-writes g c = λ plain ok. rw (c.in-BadField.is, ← c.name.ensures) (c.at_line_of.ensures plain ok)

pub returns-in-DuplicateStep-clause-writes : goal.returns-in-DuplicateStep-clause-writes
returns-in-DuplicateStep-clause-writes g c = λ plain ok. rw c.in-DuplicateStep.is (c.at_line.ensures plain ok)

pub returns-in-Backward-clause-writes : goal.returns-in-Backward-clause-writes
returns-in-Backward-clause-writes g c = λ plain ok. rw c.in-Backward.is (c.at_line-in-Backward.ensures plain ok)

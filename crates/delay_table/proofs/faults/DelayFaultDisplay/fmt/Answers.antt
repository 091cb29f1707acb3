use Rattle.delay_table.proofs.faults.DelayFaultDisplay.fmt.Goals as goal

pub returns-in-GroupSum-clause-writes : goal.returns-in-GroupSum-clause-writes
returns-in-GroupSum-clause-writes g c = λ plain ok. rw c.in-GroupSum.is (c.write-in-GroupSum.ensures.writes plain ok)

use Rattle.csv_rows.proofs.fault_texts.FeedFaultDisplay.fmt.Goals as goal

pub returns-in-BadField-clause-writes : goal.returns-in-BadField-clause-writes
returns-in-BadField-clause-writes g c = λ plain ok. rw (c.in-BadField.is, ← c.file_name.ensures, ← c.name.ensures) (c.at_line_of.ensures plain ok)

pub returns-in-DuplicateKey-clause-writes : goal.returns-in-DuplicateKey-clause-writes
returns-in-DuplicateKey-clause-writes g c = λ plain ok. rw (c.in-DuplicateKey.is, ← c.file_name-in-DuplicateKey.ensures) (c.at_line.ensures plain ok)

use Rattle.window_laws.proofs.Problems.{rows_no_later, rows_as_good}
use Rattle.window_laws.proofs.files.more_rows_are_no_later.Goals as goal

pub returns-clause-least : goal.returns-clause-least
returns-clause-least c = rows_no_later

pub returns-clause-as_good : goal.returns-clause-as_good
returns-clause-as_good c = rows_as_good

use Rattle.window_laws.proofs.Rows.{appended, appended_of_trips}
use Rattle.window_laws.proofs.files.appended_rows_are_more.Goals as goal

pub returns-clause-rows : goal.returns-clause-rows
returns-clause-rows c = appended

pub returns-clause-of_trips : goal.returns-clause-of_trips
returns-clause-of_trips c = appended_of_trips

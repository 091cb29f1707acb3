use Rattle.window_laws.proofs.Folders.{has_all}
use Rattle.window_laws.proofs.files.more_rows_have_more.Goals as goal

pub returns : goal.returns
returns c = λ limits files others folder other h k more. has_all limits files others folder other more h k

use Rattle.window_laws.proofs.Inserted.{longer_part}
use Rattle.window_laws.proofs.feeds.a_longer_window_has_more.Goals as goal

pub returns : goal.returns
returns c = longer_part

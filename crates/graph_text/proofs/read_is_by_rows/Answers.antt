use Rattle.graph_text.proofs.Accepted.{text_reported, text_read}
use Rattle.graph_text.proofs.read_is_by_rows.Goals as goal

pub returns : goal.returns
returns c n names head graph text valid = (
  λ read. (text_reported n names head.query.source.0 head.query.target.0 head.query.start.0 text head graph read).0,
  text_read n names valid head graph text,
)

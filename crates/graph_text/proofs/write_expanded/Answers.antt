use Rattle.graph_text.proofs.write_expanded.Goals as goal

pub returns : goal.returns
returns c = rw (c.version_by.ensures, c.rides_leave.ensures, c.as_slice.ensures, c.new.ensures.items) at c.put.ensures

use Rattle.lower_proof.proofs.ReadRows.{IsReadTo}
use Rattle.lower_proof.proofs.reader.read_values.Given as goal

abbrev pub invariant-loop-row : goal.invariant-loop-row
invariant-loop-row l = IsReadTo l.network l.names l.rows l.stated l.row l.values.items l.last

use Rattle.graph_text.proofs.Common.{◌≡◌, ◌+◌, drop, place_tables_from, no_tables, IsPlaced}
use Rattle.graph_text.proofs.reader.Reader.read_tables.Given as goal

-- what the rows that remain give from here on
abbrev pub invariant-loop-row : goal.invariant-loop-row
invariant-loop-row l = record {
  reported : place_tables_from l.self.network.now l.self.names l.self.version
      (drop 2 l.self.rows.now) 3 no_tables ≡ place_tables_from l.self.network.now l.self.names l.self.version (drop (l.row + 1) l.self.rows.now) (l.row + 2) l.reading;
  place : IsPlaced l.self.network.now l.reading;
}

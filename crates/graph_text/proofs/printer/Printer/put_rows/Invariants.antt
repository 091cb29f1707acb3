use Rattle.graph_text.proofs.Common.{◌≡◌, ◌++◌, drop, rows_text}
use Rattle.graph_text.proofs.printer.Printer.put_rows.Given as goal

-- the text so far, and that of the rows that remain
abbrev pub invariant-loop-row : goal.invariant-loop-row
invariant-loop-row l =
    l.text.items ++ rows_text l.self.network.now l.self.names.now l.self.version l.kind
    (drop l.row-index l.rows) ≡ l.initial.text.items ++ rows_text l.self.network.now l.self.names.now l.self.version l.kind l.rows

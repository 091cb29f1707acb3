use Rattle.graph_text.proofs.Common.{◌≡◌, ◌++◌, drop, tables_text}
use Rattle.graph_text.proofs.printer.PlacePrinter.put_tables.Given as goal

-- the text so far, and that of the tables that remain
abbrev pub invariant-loop-table : goal.invariant-loop-table
invariant-loop-table l =
    l.text.items ++ tables_text l.self.printer.network.now l.self.printer.names.now l.self.printer.version
    (drop l.table-index l.tables) ≡ l.initial.text.items ++ tables_text l.self.printer.network.now l.self.printer.names.now l.self.printer.version l.tables

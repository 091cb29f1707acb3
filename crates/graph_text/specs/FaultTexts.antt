-- The texts of the faults of a graph file.
use Rattle.std.specs.Prelude.{ℕ, List, codes}
use Rattle.csv_rows.specs.FaultTexts.{at_line}
use Rattle.graph_text.specs.declared.reader.TextFault.{TextFault, TheVariants.{Row, UnknownName, NotRising, NoLeg, OtherQuery, NoMemory}}

-- the text of a fault of a graph file
abbrev pub graph_fault_text : TextFault → List ℕ
graph_fault_text (Row line) = at_line (codes "graph file") line (codes "bad row")
graph_fault_text (UnknownName line) = at_line (codes "graph file") line (codes "unknown name")
graph_fault_text (NotRising line) = at_line (codes "graph file") line (codes "not rising")
graph_fault_text (NoLeg line) = at_line (codes "graph file") line (codes "does not agree")
graph_fault_text (OtherQuery line) = at_line (codes "graph file") line (codes "other query")
graph_fault_text NoMemory = codes "out of memory"

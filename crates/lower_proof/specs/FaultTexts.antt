-- The texts of the faults of a certificate's file.
use Rattle.std.specs.Prelude.{ℕ, List, codes}
use Rattle.csv_rows.specs.FaultTexts.{at_line}
use Rattle.lower_proof.specs.declared.reader.ProofFault.{ProofFault, TheVariants.{Row, UnknownName, NoConnection, NotRising, OtherQuery, NoMemory}}

-- the text of a fault of a certificate's file
abbrev pub certificate_fault_text : ProofFault → List ℕ
certificate_fault_text (Row line) = at_line (codes "proof file") line (codes "bad row")
certificate_fault_text (UnknownName line) = at_line (codes "proof file") line (codes "unknown name")
certificate_fault_text (NoConnection line) = at_line (codes "proof file") line (codes "does not agree")
certificate_fault_text (NotRising line) = at_line (codes "proof file") line (codes "not rising")
certificate_fault_text (OtherQuery line) = at_line (codes "proof file") line (codes "other query")
certificate_fault_text NoMemory = codes "out of memory"

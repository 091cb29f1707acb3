use Rattle.lower_proof.proofs.Common.{◌≡◌, ◌++◌, drop, text_of_records, AllFit, value_records}
use Rattle.lower_proof.proofs.printer.Printer.put_values.Given as goal

-- the text so far, and that of the values that remain
abbrev pub invariant-loop-i : goal.invariant-loop-i
invariant-loop-i l = record {
  text : l.text.items ++ text_of_records (value_records l.self.network.now l.self.names.now l.i (drop l.i l.self.values.now))
      ≡ l.initial.text.items ++ text_of_records (value_records l.self.network.now l.self.names.now 0 l.self.values.now);
  fit : AllFit l.i l.self.values.now;
}

use Rattle.lower_proof.proofs.Common.{◌∙◌, arith, ap, decimal, Connection, run_name, four_fields, name_is}
use Rattle.lower_proof.proofs.printer.Printer.put_value.Goals as goal

pub run_name-requires : goal.run_name-requires
run_name-requires c = grind arith

pub returns-clause-text : goal.returns-clause-text
returns-clause-text c =
    let fields = four_fields c.as_slice.result.now c.as_bytes.result.now c.as_bytes-2.result.now c.as_slice-2.result.now _ _ _ _
    c.as_slice.ensures
    (c.as_bytes.ensures.value ∙ name_is c.args.self.now.names.now.runs c.get-connection.result.run.0 c.run_name.result.now c.run_name.ensures.name
    ∙ ap (λ (k : Connection). run_name c.args.self.now.names.now k.run.0) c.get-connection.ensures.connection)
    (c.as_bytes-2.ensures.value ∙ c.format.ensures.text ∙ ap (λ (k : Connection). decimal k.step) c.get-connection.ensures.connection)
    (c.as_slice-2.ensures ∙ c.write_nanos-nanos.ensures.text) in
    rw c.in-Some.is (rw fields at c.put_row.ensures)

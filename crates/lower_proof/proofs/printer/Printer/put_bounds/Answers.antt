use Rattle.lower_proof.proofs.Common.{◌∙◌, ap, decimal, seven_fields, name_is}
use Rattle.lower_proof.proofs.printer.Printer.put_bounds.Goals as goal

pub returns : goal.returns
returns c =
    let places = c.args.self.now.names.now.places in
    let query = c.args.self.now.query.now in
    let fields = seven_fields c.as_slice.result.now c.as_slice-2.result.now c.as_bytes.result.now c.as_bytes-2.result.now c.as_slice-3.result.now c.as_slice-4.result.now
    c.as_bytes-3.result.now _ _ _ _ _ _ _
    c.as_slice.ensures
    c.as_slice-2.ensures
    (c.as_bytes.ensures.value ∙ name_is places query.source.0 c.place_name.result.now c.place_name.ensures.name)
    (c.as_bytes-2.ensures.value ∙ name_is places query.target.0 c.place_name-2.result.now c.place_name-2.ensures.name)
    (c.as_slice-3.ensures ∙ c.write_moment-start.ensures.text)
    (c.as_slice-4.ensures ∙ c.write_moment-deadline.ensures.text)
    (c.as_bytes-3.ensures.value ∙ c.format.ensures.text ∙ ap decimal c.number_of.ensures) in
    rw fields at c.put_row.ensures

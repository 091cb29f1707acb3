use Rattle.graph_text.proofs.{Common.{◌∙◌, [], ap, refl, nanos_text, name_is}, Fields.take_nine}
use Rattle.graph_text.proofs.printer.Printer.put_head.Goals as goal

pub returns : goal.returns
returns c =
    let fields =
    take_nine c.args.self.now.version c.args.kind.now c.as_slice.result.now c.as_bytes.result.now c.as_bytes-2.result.now c.as_slice-2.result.now
    c.as_slice-3.result.now c.as_slice-4.result.now c.as_slice-5.result.now c.as_slice-6.result.now
    _ _ _ _ _ _ _ _ []
    refl
    (c.as_slice.ensures ∙ c.digit.ensures)
    (c.as_bytes.ensures.value ∙ name_is c.args.self.now.names.now.places c.args.self.now.head.now.query.source.0 c.place_name.result.now c.place_name.ensures.name)
    (c.as_bytes-2.ensures.value ∙ name_is c.args.self.now.names.now.places c.args.self.now.head.now.query.target.0 c.place_name-2.result.now c.place_name-2.ensures.name)
    (c.as_slice-2.ensures ∙ c.write_moment-start.ensures.text)
    (c.as_slice-3.ensures ∙ c.write_moment-deadline.ensures.text)
    (c.as_slice-4.ensures ∙ c.write_nanos-lo.ensures.text ∙ ap nanos_text c.lo.ensures.lo)
    (c.as_slice-5.ensures ∙ c.write_nanos-hi.ensures.text ∙ ap nanos_text c.hi.ensures)
    c.as_slice-6.ensures in
    rw fields at c.put_row.ensures

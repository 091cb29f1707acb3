use Rattle.graph_text.proofs.{Common.{◌∙◌, name_is, arith}, Fields.leg_row_fields}
use Rattle.printed_rows.proofs.Connections.{dep_printable, arr_printable, run_named, from_named, to_named}
use Rattle.graph_text.proofs.printer.Printer.put_leg.Goals as goal

pub returns : goal.returns
returns c =
    let fields = leg_row_fields c.args.self.now.network.now c.args.self.now.names.now c.args.self.now.version c.args.leg c.get-enter.result c.get-exit.result c.args.kind.now c.args.second.now
    c.as_bytes.result.now c.as_bytes-2.result.now c.as_slice.result.now c.as_bytes-3.result.now c.as_bytes-4.result.now c.as_slice-2.result.now c.as_bytes-5.result.now
    c.get-enter.ensures.connection c.get-exit.ensures.connection
    (c.as_bytes.ensures.value ∙ name_is c.args.self.now.names.now.runs c.get-enter.result.run.0 c.run_name.result.now c.run_name.ensures.name)
    (c.as_bytes-2.ensures.value ∙ c.format.ensures.text)
    (c.as_slice.ensures ∙ c.write_moment-dep.ensures.text)
    (c.as_bytes-3.ensures.value ∙ c.format-2.ensures.text)
    (c.as_bytes-4.ensures.value ∙ name_is c.args.self.now.names.now.places c.get-exit.result.to.0 c.place_name.result.now c.place_name.ensures.name)
    (c.as_slice-2.ensures ∙ c.write_moment-arr.ensures.text)
    (c.as_bytes-5.ensures.value ∙ name_is c.args.self.now.names.now.places c.get-enter.result.from.0 c.place_name-2.result.now c.place_name-2.ensures.name) in
    rw fields at c.put_row.ensures

pub write_moment-dep-requires : goal.write_moment-dep-requires
write_moment-dep-requires c = dep_printable c.args.self.now.network.now c.args.leg.enter.0 c.get-enter.result c.get-enter.ensures.valid c.requires.enter c.get-enter.ensures.connection

pub write_moment-arr-requires : goal.write_moment-arr-requires
write_moment-arr-requires c = arr_printable c.args.self.now.network.now c.args.leg.exit.0 c.get-exit.result c.get-exit.ensures.valid c.requires.exit c.get-exit.ensures.connection

pub run_name-requires : goal.run_name-requires
run_name-requires c = run_named c.args.self.now.names.now c.args.self.now.network.now c.args.leg.enter.0 c.get-enter.result c.args.self.now.fit c.requires.enter c.get-enter.ensures.connection

pub place_name-requires : goal.place_name-requires
place_name-requires c = grind (arith, to_named)

pub place_name-requires-2 : goal.place_name-requires-2
place_name-requires-2 c = grind (arith, from_named)

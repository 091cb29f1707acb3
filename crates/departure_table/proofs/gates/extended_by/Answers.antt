use Rattle.std.proofs.lemmas.{Grind.common_steps, List.{length-set, get_or_default, FromFn.length-map-range_with_len}}
use Rattle.departure_table.proofs.{Common.{◌∙◌, arith, append-nil, slice_index_or, extended_by}, GateLists.{led_to_more, all_led_to, plain_valid, as_many_links, are_links}}
use Rattle.plan_model.proofs.{SameParts.same_parts, GateWays.has_gates}
use Rattle.departure_table.proofs.gates.extended_by.Goals as goal

pub loop-k-init : goal.loop-k-init
loop-k-init c = grind (arith, length-map-range_with_len, slice_index_or, append-nil)

pub index_mut-into-requires : goal.index_mut-into-requires
index_mut-into-requires c = grind arith

pub loop-k-preserved : goal.loop-k-preserved
loop-k-preserved c = grind (arith, get_or_default, length-set, led_to_more, slice_index_or)

pub from_parts-requires : goal.from_parts-requires
from_parts-requires c = grind (arith, plain_valid)

pub with_links-requires-clause-many : goal.with_links-requires-clause-many
with_links-requires-clause-many c = grind (arith, common_steps, all_led_to, as_many_links)

pub with_links-requires-clause-each : goal.with_links-requires-clause-each
with_links-requires-clause-each c =
    let m = c.args.network.now in
    let links = c.from_vec-links.ensures ∙ all_led_to m c.args.sources.now c.loop-k.k c.loop-k.links.items (omega arith) c.loop-k.invariant.len c.loop-k.invariant.led in
    are_links m c.copied_connections.ensures.valid c.args.sources.now c.requires _ _ links (c.from_parts.ensures.change ∙ c.in_ok-change.ensures)

pub returns-clause-parts : goal.returns-clause-parts
returns-clause-parts c =
    let m = c.args.network.now in
    let sources = c.args.sources.now in
    let change = c.with_links.ensures.change ∙ c.from_parts.ensures.change ∙ c.in_ok-change.ensures in
    let connections = c.with_links.ensures.connections ∙ c.from_parts.ensures.connections ∙ c.in_ok-connections.ensures.connections in
    let classes = c.with_links.ensures.classes ∙ c.from_parts.ensures.classes ∙ c.in_ok-classes.ensures in
    let links = c.with_links.ensures.links ∙ c.from_vec-links.ensures ∙ all_led_to m sources c.loop-k.k c.loop-k.links.items (omega arith) c.loop-k.invariant.len c.loop-k.invariant.led in
    same_parts c.with_links.result (extended_by m sources) connections change classes links

pub returns-clause-gates : goal.returns-clause-gates
returns-clause-gates c = grind (arith, returns-clause-parts, has_gates)

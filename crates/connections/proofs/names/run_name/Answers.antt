use Rattle.connections.proofs.{Common.{[], ℤ, w32, SFits, Some, sym, ap, ◌∙◌, subst, rules, append_assoc, to_z-of_z, HasDate, get_or_from_slice_get, arith}, DateLemmas.{has_date, date_is_ascii}}
use Rattle.std.proofs.lemmas.Str.{IsUtf8-from_ascii}
use Rattle.connections.proofs.names.run_name.Goals as goal

pub write_date-date-requires : goal.write_date-date-requires
write_date-date-requires c =
    let fits : SFits w32 c.args.named.now.run.origin.day.number = search rules in
    let P : ℤ → Type 0 = HasDate in
    subst P (sym (to_z-of_z w32 c.args.named.now.run.origin.day.number fits)) (has_date c.args.named.now.run.origin.day c.args.named.now.of_feed.day)

pub unreachable-requires : goal.unreachable-requires
unreachable-requires c = c.in-Err.ensures.cases.0 (IsUtf8-from_ascii c.write_date-date.result (date_is_ascii c.write_date-date.result _ c.write_date-date.ensures))

pub returns-clause-name : goal.returns-clause-name
returns-clause-name c =
    let id = get_or_from_slice_get c.args.named.now.feed.now.trip_ids c.args.named.now.run.trip c.trip_id.result.now [] c.trip_id.ensures in
    let fits : SFits w32 c.args.named.now.run.origin.day.number = search rules in
    let date = c.write_date-date.result in
    let text = c.in_ok-name-in-Ok.ensures.ok ∙ c.in-Ok.ensures.cases.0 in
    record {
      date = date;
      reads = c.write_date-date.ensures ∙ ap Some (to_z-of_z w32 c.args.named.now.run.origin.day.number fits);
      text = grind (arith, append_assoc);
    }

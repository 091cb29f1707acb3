-- The stop that a field names.
use Rattle.stop_times.proofs.Common.{◌≡◌, ◌∙◌, sym, ap, subst, Some, IsUtf8, arith, ℕ, ◌==◌, false, List, length, slice_get, common_steps, IsStopOf}
use Rattle.std.proofs.lemmas.Slice.Eq.{bytes_eq-Decides}
use Rattle.plan_model.specs.NameLists.{IsNameList}
use Rattle.csv_rows.proofs.{IdLemmas.found, NameLemmas.text_some}
use Rattle.stop_times.proofs.rows.read_stop_number.Goals as goal

-- the stop that a field names, where it is the id with this number
pub stop_here : (stops : List (List ℕ)) (id : List ℕ) (stop : ℕ) → IsNameList stops → false ≡ (length id == 0) → IsUtf8 id → slice_get stops stop ≡ Some id
    → IsStopOf stops id (Some stop)
stop_here stops id stop ids some text here = grind (arith, common_steps, text_some, found)

pub returns-then-eq-clause-stop : goal.returns-then-eq-clause-stop
returns-then-eq-clause-stop c =
    let here : c.as_bytes.result.now ≡ c.args.id.now = (bytes_eq-Decides c.as_bytes.result.now c.args.id.now).0 (sym c.eq.ensures ∙ c.if-eq.true) in
    stop_here c.args.stops.now c.args.id.now c.args.expected c.len.ensures.names (sym c.if-not-is_empty.true ∙ c.is_empty.ensures)
    (subst IsUtf8 here c.as_bytes.ensures.utf8)
    (c.get.ensures ∙ ap Some (sym c.as_bytes.ensures.value ∙ here))

use Rattle.stop_times.proofs.Common.{◌≡◌, ◌<◌, ◌+◌, ◌-◌, ◌∷◌, ◌∙◌, ℕ, [], Some, ap, arith, length, Ok, Err, length_push, result_err, first_below, first-zero, first-next, first-at, drop-next}
use Rattle.stop_times.proofs.{Common.{drop-none, list_below-zero, list_below-next, bad_time, counted_fault, timed_at, named_of}, TimeLemmas.{row_is, counted_row, counted_many}}
use Rattle.stop_times.proofs.table_rows.rows_after.Goals as goal

pub loop-order-init : goal.loop-order-init
loop-order-init c = grind (arith, list_below-zero, first-zero)

pub returns-then-not-found : goal.returns-then-not-found
returns-then-not-found c = grind (arith, drop-none)

pub returns-then-most-taken-clause-fault : goal.returns-then-most-taken-clause-fault
returns-then-most-taken-clause-fault c = λ free.
    let t = c.args.row.now ∷ c.args.records.now in
    let n = length c.loop-order.timed.items in
    let step = drop-next t (n + 1) c.next.new.fields c.next.new.self [] (c.loop-order.invariant.remaining ∙ c.in_ok-found.ensures.some c.if-not-found.false) in
    grind (arith, counted_many)

pub loop-order-preserved : goal.loop-order-preserved
loop-order-preserved c =
    let t = c.args.row.now ∷ c.args.records.now in
    let named = named_of c.args.named.now in
    let old = c.loop-order.timed.items in
    let new = c.take_row.new.timed.items in
    let n = length old in
    let step = drop-next t (n + 1) c.next.new.fields c.next.new.self [] (c.loop-order.invariant.remaining ∙ c.in_ok-found.ensures.some c.if-not-found.false) in
    let w = c.in-Ok.ensures.row in
    let more : length new ≡ n + 1 = ap length w.2 ∙ length_push old w.0 in
    let here : timed_at named t n ≡ Ok w.0 = row_is named t c.args.columns n c.next.new.fields (Ok w.0) c.requires step.0 w.1 in
    grind (arith, list_below-next, first-next)

pub returns-in-Err-clause-fault : goal.returns-in-Err-clause-fault
returns-in-Err-clause-fault c = λ free.
    let t = c.args.row.now ∷ c.args.records.now in
    let named = named_of c.args.named.now in
    let n = length c.loop-order.timed.items in
    let fault = c.in-Err.fault in
    let step = drop-next t (n + 1) c.next.new.fields c.next.new.self [] (c.loop-order.invariant.remaining ∙ c.in_ok-found.ensures.some c.if-not-found.false) in
    let taken : c.len.result ≡ n = omega arith in
    let all : length c.args.records.now ≡ c.len.result + 1 + length c.next.new.self = omega (arith, step.2, taken) in
    let inside : n < length c.args.records.now = omega (arith, all, taken) in
    counted_row c.args.limits.now.stop_times (length c.args.records.now) fault c.counted_fault-in-Err.result (first_below (bad_time named t) (length c.args.records.now)) free
    (λ fine. first-at (bad_time named t) n (length c.args.records.now) fault inside c.loop-order.invariant.none
    (ap result_err (row_is named t c.args.columns n c.next.new.fields (Err fault) c.requires step.0 (c.in-Err.ensures.fault fine))))
    (ap (λ (k : ℕ). counted_fault c.args.limits.now.stop_times k (Some fault)) all ∙ c.counted_fault-in-Err.ensures.fault free)

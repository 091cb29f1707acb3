-- What the connections of the runs of a row that leave one kept row add up to.
use Rattle.connections.proofs.Common.{◌-◌, arith, ◌≡◌, ℕ, ◌*◌, ◌&&◌, min, nat_lt, Bool, List, ap, ◌∙◌, ltb-true, lt-ltb, and_parts, and_from, FrequencyRow, StopRow, end_of_times, IsFrequency}
use Rattle.connections.proofs.{Common.{kept_at, PlaceId, departure, ServiceDay, Window, holds, DepartOnDay, departs, origin_at, leaving_sum}, CountLemmas.sum-next, SumLemmas.row_sum-leaving}
use Rattle.connections.proofs.{SumLemmas.between-sum, RepeatLemmas.{AreLeaving, between, inside, to_few}}
use Rattle.connections.proofs.counts.sum_row.Goals as goal

pub leaving_sum-is : (each : PlaceId → ℕ) (w : Window) (rows : List StopRow) (deps : DepartOnDay rows) (day : ServiceDay) (row : FrequencyRow) (is : IsFrequency row) (k from to : ℕ)
    → AreLeaving w rows day row k from to → leaving_sum each w rows day row k ≡ (to - from) * each (kept_at rows k).place
unfolding leaving_sum
leaving_sum-is each w rows deps day row is k from to l =
    let p : ℕ → Bool = λ m. nat_lt (departure row m) row.end && holds w (departs rows (origin_at rows day (departure row m)) k) in
    let few : min to end_of_times - from ≡ to - from = omega (arith, to_few w rows day row deps is k from to l) in
    between-sum p from to (each (kept_at rows k).place) end_of_times
    (λ m h. let x = and_parts _ _ h in inside w rows day row deps is k from to m l (ltb-true (departure row m) row.end x.0) x.1)
    (λ m low high. let x = between w rows day row deps is k from to m l low high in and_from _ _ (lt-ltb (departure row m) row.end x.0) x.1)
    ∙ ap (λ n. n * each (kept_at rows k).place) few

pub loop-k-preserved : goal.loop-k-preserved
loop-k-preserved c = grind (arith, leaving_sum-is, sum-next)

pub returns : goal.returns
returns c = grind (arith, row_sum-leaving)

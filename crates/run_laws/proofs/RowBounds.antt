-- The upper bound of a row of departures is that of a plan from then.
use Rattle.run_laws.proofs.Common.{ℕ, ◌≡◌, NetworkModel, Query, Tree, Interval, arith}
use Rattle.decision_graph.specs.GraphValues.{IsBest}
use Rattle.departure_table.specs.{Departures.{IsBestFrom, SafeFrom}, declared.DepartureRow.DepartureRow}

pub row_upper : (n : NetworkModel) (source moment : ℕ) (q r : Query) (row : DepartureRow) (strategy : Tree) (bounds : Interval) → IsBestFrom n (SafeFrom n source q) moment row
    → IsBest n r strategy bounds → r.source.0 ≡ source → r.target.0 ≡ q.target.0 → r.start.0 ≡ moment → r.deadline.0 ≡ q.deadline.0 → row.bounds.hi ≡ bounds.hi
row_upper n source moment q r row strategy bounds best two s t x d = grind arith

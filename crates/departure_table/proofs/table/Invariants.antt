use Rattle.departure_table.proofs.{Common.{◌+◌, ◌-◌, ◌++◌, List, DepartureRow, SafeAfter, row_found, AreLooked}, Growth.IsTableTo}
use Rattle.departure_table.proofs.table.Given as goal

-- the rows so far, and then those that are looked up from the next moment on, are those from the first moment on
abbrev pub invariant-loop-next : goal.invariant-loop-next
invariant-loop-next l = record {
  table : IsTableTo l.network (SafeAfter l.network l.query) l.fn.first.0 l.fn.last.0 l.next l.rows;
  looked : (more : List DepartureRow) → AreLooked (row_found l.network l.query l.scanned) l.fn.last.0 l.next more
      → AreLooked (row_found l.network l.query l.scanned) l.fn.last.0 l.fn.first.0 (l.rows ++ more);
}

abbrev pub decreases-loop-next : goal.decreases-loop-next
decreases-loop-next l = l.fn.last.0 + 1 - l.next

-- A reach does not depend on the source of its query, and has a text.
use Rattle.journey_answers.proofs.Common.{ℕ, arith, slice_index_or, All, List, Option, MatchOption, Query, NetworkModel, IsValid}
use Rattle.plan_model.specs.NameLists.{NameLists, NamesFit}
use Rattle.journey_report.specs.DepartureTexts.{IsPrintable}
use Rattle.departure_table.proofs.EachRow.{each_row, leaves_early}
use Rattle.departure_table.specs.{Looked.asked_at, Reach.{IsReach, IsReachRow}, declared.reach_rows.ReachRow.ReachRow}

module _ (m : NetworkModel) (q : Query) (x start : ℕ) where
  same_row : (row : ReachRow) → IsReachRow m (asked_at q x) start row → IsReachRow m q start row
  same_row row is = record { latest = is.latest; bounds = is.bounds }

  same_answer : (Nobody : Type 0) (o : Option ReachRow) → MatchOption o Nobody (IsReachRow m (asked_at q x) start) → MatchOption o Nobody (IsReachRow m q start)
  same_answer Nobody o is = grind (arith, same_row)

  pub same_reach : (rows : List ReachRow) → IsReach m (asked_at q x) start rows → IsReach m q start rows
  same_reach rows is = grind (arith, same_answer)

-- the rows of a reach can be printed
pub printable : (m : NetworkModel) (names : NameLists) → IsValid m → NamesFit names m → (q : Query) (rows : List ReachRow) → IsReach m q q.start.0 rows → All (IsPrintable names) rows
printable m names v fit q rows is k d within =
    let at = is.places k d within in
    let early = leaves_early m q q.start.0 v (slice_index_or rows k d) at.1 (each_row m q q.start.0 rows is k d within) in
    record { named = omega (arith, at.0, fit.places); latest = omega (arith, early) }

-- The departures, and the bounds of a reach, are those that the rules give.
use Rattle.journey_answers.proofs.Common.{◌≡◌, ℕ, ◌*◌, ◌<◌, arith, List, [], ◌∷◌, All, length, subst, Query, NetworkModel, DepartureRow, Problem, IsRuled, AreByRules, added_query}
use Rattle.journey_answers.specs.Reach.{IsReachByRules}
use Rattle.value_laws.specs.declared.MeanSpan.{MeanSpan}
use Rattle.meat_scan.specs.ScanResult.{ScanResult}
use Rattle.plan_model.specs.Gates.{extended_by}
use Rattle.departure_table.specs.{Looked.{asked_at, row_found, AreLooked}, Reach.{IsFoundAtGate, places_of}, declared.reach_rows.ReachRow.ReachRow}
use Rattle.departure_table.proofs.ReachGrowth.{are_below, count_up_to}

pub by_rules : (p : Problem) (q : Query) (last : ℕ) (rows : List DepartureRow) (n : NetworkModel) (asked : Query) (found : ScanResult MeanSpan)
    → n ≡ extended_by p.timetable.network (q.source ∷ []) → asked ≡ added_query p.timetable.network q → IsRuled n asked found
    → AreLooked (row_found n asked found) last q.start.0 rows → AreByRules p q last rows
by_rules p q last rows n asked found network query ruled looked = grind arith

pub by_gates : (m : NetworkModel) (q : Query) (rows : List ReachRow) (n : NetworkModel) (x : ℕ) (found : ScanResult MeanSpan) → n ≡ extended_by m (places_of m) → x ≡ length m.change
    → IsRuled n (asked_at q x) found → All (IsFoundAtGate n m q found) rows → length m.change * 2 < 4294967296 → IsReachByRules m q rows
by_gates m q rows n x found network last ruled looked room =
    let more = extended_by m (places_of m) in
    record {
      fit = record { there = are_below (length m.change); few = omega (arith, room, count_up_to (length m.change)) };
      found = found;
      ruled = subst (λ (k : ℕ). IsRuled more (asked_at q k) found) last (subst (λ (l : NetworkModel). IsRuled l (asked_at q x) found) network ruled);
      looked = subst (λ (l : NetworkModel). All (IsFoundAtGate l m q found) rows) network looked;
    }

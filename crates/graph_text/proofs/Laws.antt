-- Which graphs can be printed.
use Rattle.graph_text.proofs.Common.{◌≡◌, ℕ, ◌<◌, length, Option, Some, arith, [], MatchOption, IfSome, slice_index_or, Leg, Query, NetworkModel, IsValid, limit_of, GraphRow, PlanGraph, IsLegOf}
use Rattle.graph_text.proofs.Common.{IsReady, IsFit, IsFitStart, IsPrintableExpanded, IsPrintablePlan, end_of_arrivals}
use Rattle.plan_model.proofs.Boarding.{limit_of-some, way_takes}
use Rattle.plan_graph.specs.declared.ExpandedGraph.{ExpandedGraph}

module _ (n : NetworkModel) (valid : IsValid n) where
  -- a limit is before the departure
  pub limit_soon : (place limit : ℕ) (leg : Leg) → IsLegOf n leg → limit_of n place leg ≡ Some limit → limit < end_of_arrivals
  limit_soon place limit leg is_leg is = grind (arith, limit_of-some)

  pub place_there : (place limit : ℕ) (leg : Leg) → IsLegOf n leg → limit_of n place leg ≡ Some limit → place < length n.change
  place_there place limit leg is_leg is = grind (arith, limit_of-some, way_takes)

  start_leg : (start : Option Leg) (P : Type 0) (Q : Leg → Type 0) → MatchOption start P Q → ((leg : Leg) → Q leg → IsLegOf n leg) → IfSome start (IsLegOf n)
  start_leg start P Q is each = grind arith

  pub ready_printable : (q : Query) (graph : ExpandedGraph) → IsReady n q graph → IsPrintableExpanded n graph
  ready_printable q graph ready = grind (arith, start_leg, limit_soon)

  pub fit_printable : (q : Query) (graph : PlanGraph) → IsFit n q graph → IsPrintablePlan n graph
  fit_printable q graph fit = record {
    start = start_leg graph.start ((q.source.0 ≡ q.target.0) × (graph.tables ≡ [])) (IsFitStart n q) fit.starts (λ leg is. is.is_leg);
    tables = λ k d within. let t = fit.tables k d within in let table = slice_index_or graph.tables k d in let first = t.rows 0 default (omega (arith, t.some)) in record {
      place = place_there table.place.0 (slice_index_or table.rows 0 default).by.0 (slice_index_or table.rows 0 default).leg first.is_leg first.by;
      rows = λ i e inside. let row = t.rows i e inside in record {
        is_leg = row.is_leg;
        by = let soon = limit_soon table.place.0 (slice_index_or table.rows i e).by.0
            (slice_index_or table.rows i e).leg row.is_leg row.by in omega (arith, soon);
      };
    };
  }
    where
      default : GraphRow
      default = record { by = record { 0 = 0 }; leg = record { enter = record { 0 = 0 }; exit = record { 0 = 0 } } }

-- The strategy of a scan's start is the one that the rules keep.
use Rattle.meat_scan.proofs.Common.{◌≡◌, ℕ, List, Option, Some, sym, ap, ◌∙◌, ConnectionId, Leg, Query, NetworkModel, IsScanOrder, unfolding_of, by_place, Scoring, Row, row_in_time, arith}
use Rattle.meat_scan.proofs.Common.{FollowsRules, IsByRules, kept_after, kept_leg, ScanResult, chosen_by, leg_choice, found_rows}
use Rattle.std.specs.Option.{option_map}

module _ {V : Type 0} (scoring : Scoring V) (n : NetworkModel) (q : Query) (found : ScanResult V) where
  leg_of_row : (row : Option (Row V)) → option_map (λ (c : V × Leg). c.1) (option_map (λ (r : Row V). (r.value, r.leg)) row) ≡ option_map (λ (r : Row V). r.leg) row
  leg_of_row row = grind arith

  pub by_rules : (order : List ConnectionId) → IsScanOrder n order → FollowsRules scoring n q order found → (start : V × Leg) → found.start ≡ Some start
      → IsByRules scoring n q (chosen_by n q found start.1) start.0
  by_rules order is_order rules start is =
      let same : (place arrival : ℕ) → leg_choice found place arrival ≡ kept_leg (kept_after scoring n q order) place arrival = λ place arrival.
      leg_of_row (row_in_time arrival (found_rows found place)) ∙ ap (λ (rows : List (Row V)). option_map (λ (r : Row V). r.leg) (row_in_time arrival rows)) (rules.rows place) in
      record {
        order = order;
        is_order = is_order;
        start = start.1;
        begins = sym rules.start ∙ is;
        goes_on = λ i. unfolding_of n q (by_place n (λ place arrival. same place arrival i)) (Some start.1);
      }

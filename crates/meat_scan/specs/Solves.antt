-- What a scan gives: the best of all safe strategies, from the start and from each place.
use Rattle.std.specs.Prelude.{◌≡◌, ◌≢◌, ℕ, ◌≤◌, Option, Some, MatchOption, length}
use Rattle.plan_model.specs.{declared.model.{Leg.Leg, Query.Query}, Network.{NetworkModel, count}, Tree.Tree, Strategy.{IsSafe, IsSafeFor}, Ways.IsKept}
use Rattle.value_laws.specs.ScoreLaws.{Scoring}
use Rattle.meat_scan.specs.ScanResult.{ScanResult, choice_of, leg_choice, chosen_at, chosen_by}

-- the tree is safe after an arrival at a place
abbrev pub IsSafeAt : NetworkModel → Query → ℕ → ℕ → Tree → Type 0
IsSafeAt network query place arrival tree = IsSafe network query.target.0 (Some query.deadline.0) tree place arrival

-- the choice after an arrival: its tree is safe, its value covers that tree and is below every safe one, within the gap,
-- and its leg is kept up to its limit
pub record SolvesEach {V : Type 0} (scoring : Scoring V) (network : NetworkModel) (query : Query)
    (found : ScanResult V) (place arrival : ℕ) (answer : V × Leg) : Type 0 where
  pub safe : IsSafeAt network query place arrival (chosen_at network query found place arrival)
  pub covers_chosen : scoring.covers answer.0 (chosen_at network query found place arrival)
  pub below_safe : (tree : Tree) → IsSafeAt network query place arrival tree → scoring.below answer.0 tree
  pub gap_within : scoring.gap answer.0 ≤ count network
  pub kept : IsKept network (leg_choice found) place arrival answer.1

-- the start leg with its value
pub record IsStartAnswer {V : Type 0} (scoring : Scoring V) (network : NetworkModel) (query : Query) (found : ScanResult V) (start : V × Leg) : Type 0 where
  pub safe : IsSafeFor network query (chosen_by network query found start.1)
  pub covers_chosen : scoring.covers start.0 (chosen_by network query found start.1)
  pub below_safe : (tree : Tree) → IsSafeFor network query tree → scoring.below start.0 tree
  pub gap_within : scoring.gap start.0 ≤ count network

-- the answers from the start and after each arrival at each place; none exactly if nothing is safe
pub record HasAnswers {V : Type 0} (scoring : Scoring V) (network : NetworkModel) (query : Query) (found : ScanResult V) : Type 0 where
  pub begins : MatchOption found.start ((tree : Tree) → IsSafeFor network query tree → ⊥) (IsStartAnswer scoring network query found)
  pub goes_on : (place arrival : ℕ) → place ≢ query.target.0 →
      MatchOption (choice_of found place arrival)
      ((tree : Tree) → IsSafeAt network query place arrival tree → ⊥)
      (SolvesEach scoring network query found place arrival)

-- what was found solves the query
pub record Solves {V : Type 0} (scoring : Scoring V) (found : ScanResult V) (network : NetworkModel) (query : Query) : Type 0 where
  pub as_many : length found.rows ≡ length network.change
  pub same_target : found.target ≡ query.target.0
  pub differ : query.source.0 ≢ query.target.0
  pub answers : HasAnswers scoring network query found

-- a strategy that the value covers is safe, and it is below each safe one, within the gap
pub record IsStartValue {V : Type 0} (scoring : Scoring V) (network : NetworkModel) (query : Query) (value : V) : Type 0 where
  pub tree : Tree
  pub safe : IsSafeFor network query tree
  pub covers_tree : scoring.covers value tree
  pub below_safe : (other : Tree) → IsSafeFor network query other → scoring.below value other
  pub gap_within : scoring.gap value ≤ count network

-- the value of the start; none exactly if nothing is safe
abbrev pub SolvesStart : {V : Type 0} → Scoring V → NetworkModel → Query → Option V → Type 0
SolvesStart scoring network query value = MatchOption value ((tree : Tree) → IsSafeFor network query tree → ⊥) (IsStartValue scoring network query)

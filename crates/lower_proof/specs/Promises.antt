-- What a certificate promises.
use Rattle.std.specs.Prelude.{◌≡◌, ℕ, ◌+◌, ◌≤◌, List, Option, Some, None}
use Rattle.plan_model.specs.{declared.model.Query.Query, Network.{NetworkModel, count, to_of, arr_of, outcomes}, Tree.{Tree, Ride, Kids}, Strategy.IsLeg}
use Rattle.plan_model.specs.{Strategy.{AreSafe, IsSafeFor}, Expected.{Below, Covers}}
use Rattle.lower_proof.specs.Certificates.{bound_of, HasValueUpTo, IsLeastAtStart, IsAccepted}

-- it is a lower bound on each tree that is safe for the query: the least value at the start is there, and below the tree
abbrev pub IsSound : NetworkModel → Query → List (Option ℕ) → Type 0
IsSound network query values = (tree : Tree) → IsSafeFor network query tree → (v : ℕ) × IsLeastAtStart network query values (Some v) × Below v tree

-- each value is a lower bound on each ride that boards its connection and is safe for the deadline after each outcome
abbrev pub AreSoundValues : NetworkModel → Query → List (Option ℕ) → Type 0
AreSoundValues network query values =
    (i j : ℕ) (kids : Kids) → IsLeg network i j
    → AreSafe network query.target.0 (Some query.deadline.0) kids (outcomes network j) (to_of network j) (arr_of network j)
    → (v : ℕ) × (bound_of values i ≡ Some v) × Below v (Ride i j kids)

-- no certificate that is accepted has a greater value at the start
abbrev pub IsGreatestCertificate : NetworkModel → Query → ℕ → Type 0
IsGreatestCertificate network query v = (others : List (Option ℕ)) (w : ℕ) → IsAccepted network query others → IsLeastAtStart network query others (Some w) → w ≤ v

-- where this one has a value, the other has one too, which is no greater
abbrev pub IsNowhereAbove : List (Option ℕ) → List (Option ℕ) → Type 0
IsNowhereAbove values others = (c v : ℕ) → bound_of values c ≡ Some v → HasValueUpTo (bound_of others c) v

-- some safe tree is at most a nanosecond for each connection above it
abbrev pub IsNear : NetworkModel → Query → ℕ → Type 0
IsNear network query v = (tree : Tree) × IsSafeFor network query tree × Covers (v + count network) tree

-- it is accepted; its value at the start is the greatest and near, and it is there exactly where some tree is safe; and where it has a value at a
-- connection, each that is accepted has one that is no greater
pub record IsBestCertificate (network : NetworkModel) (query : Query) (values : List (Option ℕ)) : Type 0 where
  pub accepted : IsAccepted network query values
  pub value : (tree : Tree) → IsSafeFor network query tree → (v : ℕ) × IsLeastAtStart network query values (Some v) × IsGreatestCertificate network query v × IsNear network query v
  pub none : ((tree : Tree) → IsSafeFor network query tree → ⊥) → IsLeastAtStart network query values None
  pub each : (others : List (Option ℕ)) → IsAccepted network query others → IsNowhereAbove values others

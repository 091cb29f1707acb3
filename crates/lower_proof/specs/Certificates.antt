-- What a certificate says: for each connection a lower bound, in nanoseconds, on the expected arrival of who boards it.
use Rattle.std.specs.Prelude.{◌≡◌, ◌≢◌, ℕ, ◌+◌, ◌*◌, ◌/◌, ◌<◌, ◌≤◌, List, [], ◌∷◌, Option, Some, None, IsTrue, length, nat_le, if◌then◌else◌, slice_index_or}
use Rattle.plan_model.specs.{Bounds.nanos_per_second, declared.{units.TheConstants.WHOLE_WEIGHT, model.{Outcome.Outcome, Query.Query}}, Network.NetworkModel}
use Rattle.plan_model.specs.{Network.{count, connection, to_of, arr_of, outcomes}, Order.IsEarlier, Strategy.{IsLeg, IsBoardable, IsBoardableAtStart}}
use Rattle.lower_proof.specs.declared.Verdict.{Verdict, TheVariants.{Holds, Fails}}
use Rattle.interval_fixed.specs.Interval.{weighted}

-- the value of a connection, where it has one
abbrev pub bound_of : List (Option ℕ) → ℕ → Option ℕ
bound_of values c = slice_index_or values c None

-- the least number that is P; none where no number is
abbrev pub IsLeastOf : (ℕ → Type 0) → Option ℕ → Type 0
IsLeastOf P None = (v : ℕ) → P v → ⊥
IsLeastOf P (Some v) = P v × ((w : ℕ) → P w → v ≤ w)

-- a connection that can be boarded, here and now, has this value
pub record Offers (network : NetworkModel) (values : List (Option ℕ)) (Boards : ℕ → Type 0) (c v : ℕ) : Type 0 where
  pub there : c < count network
  pub board : IsTrue (connection network c).can_board
  pub boards : Boards c
  pub value : bound_of values c ≡ Some v

-- the arrival in nanoseconds, where it is by the deadline
abbrev pub arrived_by : ℕ → ℕ → Option ℕ
arrived_by deadline x = if nat_le x deadline then Some (nanos_per_second * x) else None

-- the least value at a place and moment: the arrival at the target, and elsewhere that of the connections that one can board
pub record IsLeastValue (network : NetworkModel) (query : Query) (values : List (Option ℕ)) (Boards : ℕ → Type 0) (p x : ℕ) (least : Option ℕ) : Type 0 where
  pub at_target : p ≡ query.target.0 → least ≡ arrived_by query.deadline.0 x
  pub elsewhere : p ≢ query.target.0 → IsLeastOf (λ v. (c : ℕ) × Offers network values Boards c v) least

-- after an arrival at a place
abbrev pub IsLeastAt : NetworkModel → Query → List (Option ℕ) → ℕ → ℕ → Option ℕ → Type 0
IsLeastAt network query values p x = IsLeastValue network query values (IsBoardable network p x) p x

-- at the start
abbrev pub IsLeastAtStart : NetworkModel → Query → List (Option ℕ) → Option ℕ → Type 0
IsLeastAtStart network query values = IsLeastValue network query values (IsBoardableAtStart network query.source.0 query.start.0) query.source.0 query.start.0

-- these are the least values at a place after each of the outcomes
abbrev pub AreLeast : NetworkModel → Query → List (Option ℕ) → ℕ → ℕ → List Outcome → List ℕ → Type 0
AreLeast network query values p arrival [] [] = Unit {0}
AreLeast network query values p arrival [] (v ∷ vs) = ⊥
AreLeast network query values p arrival (o ∷ row) [] = ⊥
AreLeast network query values p arrival (o ∷ row) (v ∷ vs) = IsLeastAt network query values p (arrival + o.delay) (Some v) × AreLeast network query values p arrival row vs

-- the value of leaving by a connection: the mean of the least values after its outcomes, rounded down
pub record IsVia (network : NetworkModel) (query : Query) (values : List (Option ℕ)) (j v : ℕ) : Type 0 where
  pub leave : IsTrue (connection network j).can_exit
  pub least : List ℕ
  pub are_least : AreLeast network query values (to_of network j) (arr_of network j) (outcomes network j) least
  pub mean : weighted (outcomes network j) least / WHOLE_WEIGHT ≡ v

-- it has a value, and that is at most this one
abbrev pub HasValueUpTo : Option ℕ → ℕ → Type 0
HasValueUpTo None v = ⊥
HasValueUpTo (Some w) v = w ≤ v

-- a connection's value is at most that of each way to leave its run after boarding it
abbrev pub IsLocal : NetworkModel → Query → List (Option ℕ) → ℕ → Type 0
IsLocal network query values c = (j v : ℕ) → IsLeg network c j → IsVia network query values j v → HasValueUpTo (bound_of values c) v

-- the same of each connection that can be boarded
abbrev pub IsAccepted : NetworkModel → Query → List (Option ℕ) → Type 0
IsAccepted network query values = (c : ℕ) → c < count network → IsTrue (connection network c).can_board → IsLocal network query values c

-- as many entries as connections: each connection that can be boarded has the least value of the ways to leave its run after boarding it, and no other has one
pub record IsTight (network : NetworkModel) (query : Query) (values : List (Option ℕ)) : Type 0 where
  pub as_many : length values ≡ count network
  pub boarded : (c : ℕ) → c < count network → IsTrue (connection network c).can_board → IsLeastOf (λ v. (j : ℕ) × IsLeg network c j × IsVia network query values j v) (bound_of values c)
  pub others : (c : ℕ) → c < count network → (IsTrue (connection network c).can_board → ⊥) → bound_of values c ≡ None

-- it can be boarded and its value is too great, and it is the last such connection of the scan order
pub record IsLastFault (network : NetworkModel) (query : Query) (values : List (Option ℕ)) (c : ℕ) : Type 0 where
  pub there : c < count network
  pub board : IsTrue (connection network c).can_board
  pub fault : IsLocal network query values c → ⊥
  pub last : (d : ℕ) → d < count network → IsTrue (connection network d).can_board → IsEarlier network c d → IsLocal network query values d

-- what a check finds
abbrev pub IsVerdict : NetworkModel → Query → List (Option ℕ) → Verdict → Type 0
IsVerdict network query values Holds = IsAccepted network query values
IsVerdict network query values (Fails id) = IsLastFault network query values id.0

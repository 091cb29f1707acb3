-- One network as it is seen in another, where all moments are less by a shift.
use Rattle.std.specs.{Prelude.{◌≡◌, ℕ, ◌+◌, ◌<◌, ◌≤◌, ◌↔◌, length, IsTrue, Option}, Option.option_map}
use Rattle.plan_model.specs.{declared.model.Connection.Connection, Network.{NetworkModel, count, connection}, Ways.way_of, Tree.{Tree, Done, Ride, Stuck, Kids}}
use Rattle.plan_model.specs.{Tree.{Nil, Kid}, Strategy.{IsSafe, IsSafeFromStart}}

abbrev mutual
  -- the tree with all moments greater by a shift
  pub later_by : ℕ → Tree → Tree
  later_by shift (Done moment) = Done (moment + shift)
  later_by shift (Ride i j kids) = Ride i j (all_later_by shift kids)
  later_by shift (Stuck place moment) = Stuck place (moment + shift)

  pub all_later_by : ℕ → Kids → Kids
  all_later_by shift Nil = Nil
  all_later_by shift (Kid weight tree others) = Kid weight (later_by shift tree) (all_later_by shift others)

-- the deadline, where there is one, greater by a shift
abbrev pub deadline_later_by : ℕ → Option ℕ → Option ℕ
deadline_later_by shift deadline = option_map (λ moment. moment + shift) deadline

-- a connection as it is seen from a first moment on: a traveller who could board it before cannot;
-- its moments from then on are less by a shift, and all else is the same
pub record IsSeen (shift first : ℕ) (seen of : Connection) : Type 0 where
  pub from : seen.from.0 ≡ of.from.0
  pub to : seen.to.0 ≡ of.to.0
  pub run : seen.run.0 ≡ of.run.0
  pub step : seen.step ≡ of.step
  pub class : seen.class.0 ≡ of.class.0
  pub exit : IsTrue seen.can_exit ↔ IsTrue of.can_exit
  pub board : IsTrue seen.can_board ↔ (IsTrue of.can_board × (first ≤ of.dep.0))
  pub departs : first ≤ of.dep.0 → seen.dep.0 + shift ≡ of.dep.0
  pub arrives : first ≤ of.arr.0 → seen.arr.0 + shift ≡ of.arr.0

-- a view shows a network from a first moment of the network on: its connections are those of the network as they are seen,
-- with the same outcomes, and between the places of the network the same ways lead
pub record IsView (view network : NetworkModel) (shift first : ℕ) : Type 0 where
  pub as_many : count view ≡ count network
  pub connections : (i : ℕ) → i < count network → IsSeen shift first (connection view i) (connection network i)
  pub classes : view.classes ≡ network.classes
  pub ways : (from to : ℕ) → from < length network.change → to < length network.change → way_of view from to ≡ way_of network from to

-- in a view exactly those trees are safe which are safe in the network by the shift later, at each of its places from the first moment on
-- and from each start from then on; and each tree that is safe there is a later one
pub record SafeAlike (view network : NetworkModel) (shift first : ℕ) : Type 0 where
  pub there : (target : ℕ) (deadline : Option ℕ) (tree : Tree) (place moment : ℕ) → place < length network.change →
      IsSafe view target deadline tree place moment → IsSafe network target (deadline_later_by shift deadline) (later_by shift tree) place (moment + shift)
  pub back : (target : ℕ) (deadline : Option ℕ) (tree : Tree) (place moment : ℕ) → place < length network.change → first ≤ moment + shift →
      IsSafe network target (deadline_later_by shift deadline) (later_by shift tree) place (moment + shift) → IsSafe view target deadline tree place moment
  pub each : (target : ℕ) (deadline : Option ℕ) (tree : Tree) (place moment : ℕ) → place < length network.change → first ≤ moment + shift →
      IsSafe network target (deadline_later_by shift deadline) tree place (moment + shift) → (sooner : Tree) × (later_by shift sooner ≡ tree)
  pub start_there : (target : ℕ) (deadline : Option ℕ) (tree : Tree) (source moment : ℕ) →
      IsSafeFromStart view target deadline tree source moment → IsSafeFromStart network target (deadline_later_by shift deadline) (later_by shift tree) source (moment + shift)
  pub start_back : (target : ℕ) (deadline : Option ℕ) (tree : Tree) (source moment : ℕ) → first ≤ moment + shift →
      IsSafeFromStart network target (deadline_later_by shift deadline) (later_by shift tree) source (moment + shift) → IsSafeFromStart view target deadline tree source moment
  pub each_start : (target : ℕ) (deadline : Option ℕ) (tree : Tree) (source moment : ℕ) → first ≤ moment + shift →
      IsSafeFromStart network target (deadline_later_by shift deadline) tree source (moment + shift) → (sooner : Tree) × (later_by shift sooner ≡ tree)

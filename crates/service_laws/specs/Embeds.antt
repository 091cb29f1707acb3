-- One network in another that offers no less, and what is safe in two networks.
use Rattle.std.specs.Prelude.{◌≡◌, ℕ, ◌≤◌, Option, ◌+◌, ◌<◌, List, [], ◌∷◌, All, Contains, IsTrue, Some, MatchOption}
use Rattle.plan_model.specs.{Network.{NetworkModel, count, connection, from_of, to_of, dep_of, arr_of, run_of, step_of, outcomes}, Tree.{Tree, worst, height}}
use Rattle.plan_model.specs.{Expected.weighted_by, Strategy.{IsSafe, IsSafeFromStart}, declared.model.{Moment.Moment, Outcome.Outcome}, Ways.way_of}

-- a number that is no less for a later arrival
abbrev pub Rises : (ℕ → ℕ) → Type 0
Rises leaf = (a b : ℕ) → a ≤ b → leaf a ≤ leaf b

-- the strategy has as many rides one after another; no arrival is later, nor is any mean over the arrivals greater of what rises with them
pub record IsNoWorse (tree than : Tree) : Type 0 where
  pub same_height : height tree ≡ height than
  pub worst : worst tree ≤ worst than
  pub mean : (leaf : ℕ → ℕ) (power : ℕ) → Rises leaf → weighted_by leaf tree power ≤ weighted_by leaf than power

-- the strategy has as many rides one after another, the same latest arrival, and the same mean over the arrivals of whatever is given for each
pub record IsAsGood (tree than : Tree) : Type 0 where
  pub same_height : height tree ≡ height than
  pub worst : worst tree ≡ worst than
  pub mean : (leaf : ℕ → ℕ) (power : ℕ) → weighted_by leaf tree power ≡ weighted_by leaf than power

-- whatever is safe in the small network, some strategy that Q holds of beside it is safe in the large one, at the image of each place and from no
-- later a moment, and from the image of each start and no later
pub record IsSafeToo (Q : Tree → Tree → Type 0) (R : ℕ → ℕ → Type 0) (small large : NetworkModel) (place : ℕ → ℕ) : Type 0 where
  pub after : (target : ℕ) (deadline : Option ℕ) (tree : Tree) (at moment own : ℕ) → R own moment →
      IsSafe small target deadline tree at moment → (other : Tree) × IsSafe large (place target) deadline other (place at) own × Q other tree
  pub from_start : (target : ℕ) (deadline : Option ℕ) (tree : Tree) (source start own : ℕ) → R own start →
      IsSafeFromStart small target deadline tree source start → (other : Tree) × IsSafeFromStart large (place target) deadline other (place source) own × Q other tree

-- a way leads from one place to another, in at most this many seconds
abbrev pub HasWay : NetworkModel → (from to most : ℕ) → Type 0
HasWay network from to most = (seconds : ℕ) × (way_of network from to ≡ Some seconds) × (seconds ≤ most)

-- each connection of the small network has an image in the large one, and each place its own place there: runs, the order of their steps and
-- places are kept, the image departs no earlier, one can board and alight where one could, and each way to a departure is no longer
pub record IsFound (small large : NetworkModel) (image place : ℕ → ℕ) : Type 0 where
  pub there : (i : ℕ) → i < count small → image i < count large
  pub runs : (i j : ℕ) → i < count small → j < count small → run_of small i ≡ run_of small j → run_of large (image i) ≡ run_of large (image j)
  pub steps : (i j : ℕ) → i < count small → j < count small → run_of small i ≡ run_of small j → step_of small i ≤ step_of small j →
      step_of large (image i) ≤ step_of large (image j)
  pub from : (i : ℕ) → i < count small → from_of large (image i) ≡ place (from_of small i)
  pub to : (i : ℕ) → i < count small → to_of large (image i) ≡ place (to_of small i)
  pub departs : (i : ℕ) → i < count small → dep_of small i ≤ dep_of large (image i)
  pub board : (i : ℕ) → i < count small → IsTrue (connection small i).can_board → IsTrue (connection large (image i)).can_board
  pub exit : (i : ℕ) → i < count small → IsTrue (connection small i).can_exit → IsTrue (connection large (image i)).can_exit
  pub places : (p q : ℕ) → place p ≡ place q → p ≡ q
  pub ways : (p i seconds : ℕ) → i < count small → way_of small p (from_of small i) ≡ Some seconds → HasWay large (place p) (from_of large (image i)) seconds

-- each outcome of the image leads to an arrival that is no later than that of some outcome
abbrev pub ArrivesNoLater : (small large : NetworkModel) → (j image : ℕ) → Type 0
ArrivesNoLater small large j image =
    All (λ o. (other : Outcome) × Contains (outcomes small j) other × (arr_of large image + o.delay ≤ arr_of small j + other.delay)) (outcomes large image)

-- the large network offers no less to who must arrive
pub record Embeds (small large : NetworkModel) (image place : ℕ → ℕ) : Type 0 where
  pub found : IsFound small large image place
  pub arrives : (j : ℕ) → j < count small → ArrivesNoLater small large j (image j)

-- rows of outcomes side by side, with the same weights; R holds of the arrivals after each
abbrev pub AreBeside : (ℕ → ℕ → Type 0) → List Outcome → (arr : ℕ) → List Outcome → (other : ℕ) → Type 0
AreBeside R [] a [] b = Unit {0}
AreBeside R [] a (o ∷ others) b = ⊥
AreBeside R (o ∷ row) a [] b = ⊥
AreBeside R (o ∷ row) a (other ∷ others) b = (o.weight ≡ other.weight) × R (a + o.delay) (b + other.delay) × AreBeside R row a others b

-- the large network offers no less by weight: each connection has the outcomes of its image, and R holds of their arrivals
pub record EmbedsBy (R : ℕ → ℕ → Type 0) (small large : NetworkModel) (image place : ℕ → ℕ) : Type 0 where
  pub found : IsFound small large image place
  pub arrives : (j : ℕ) → j < count small → AreBeside R (outcomes large (image j)) (arr_of large (image j)) (outcomes small j) (arr_of small j)

-- no arrival of the image is later, at the same weights
abbrev pub EmbedsNoLater : (small large : NetworkModel) → (image place : ℕ → ℕ) → Type 0
EmbedsNoLater = EmbedsBy (λ a b. a ≤ b)

-- each arrival of the image is at the same moment, at the same weights
abbrev pub EmbedsAlike : (small large : NetworkModel) → (image place : ℕ → ℕ) → Type 0
EmbedsAlike = EmbedsBy (λ a b. a ≡ b)

-- where there is a least worst arrival there is another that is no later
abbrev pub IsNoLaterThan : Option Moment → Option Moment → Type 0
IsNoLaterThan others least = MatchOption least (Unit {0}) (λ w. MatchOption others ⊥ (λ v. v.0 ≤ w.0))

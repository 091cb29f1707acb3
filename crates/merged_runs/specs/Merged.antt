-- A merge of the runs of a network, the last connection first.
use Rattle.std.specs.Prelude.{◌≡◌, ℕ, zero, suc, ◌+◌, ◌-◌, ◌*◌, ◌/◌, ◌<◌, ◌≤◌, List, [], ◌∷◌, length, filter, slice_index, nat_lt, if◌then◌else◌}
use Rattle.plan_model.specs.{declared.model.ConnectionId.ConnectionId, Bounds.most_connections, Network.{NetworkModel, IsValid, count, dep_of, run_of}}

-- rises along the scan order, since a connection has a lesser number than most_connections
abbrev pub rank : NetworkModel → ℕ → ℕ
rank network i = dep_of network i * most_connections + i

-- a connection at its position among others that are in the scan order
abbrev pub with_connection : NetworkModel → ℕ → List ConnectionId → List ConnectionId
with_connection network i [] = record { 0 = i } ∷ []
with_connection network i (id ∷ ids) = if nat_lt (rank network i) (rank network id.0) then record { 0 = i } ∷ id ∷ ids else id ∷ with_connection network i ids

-- the first m connections, in the scan order
abbrev pub in_order : NetworkModel → ℕ → List ConnectionId
in_order network zero = []
in_order network (suc m) = with_connection network m (in_order network m)

-- in the scan order, the connections that come before the end that remains of their run
unfoldable pub rest_of : NetworkModel → List ℕ → List ConnectionId
rest_of network remaining = filter (λ id. nat_lt id.0 (slice_index remaining (run_of network id.0))) (in_order network (count network))

-- s connections are of the runs before r, and they come first
pub record IsStart (network : NetworkModel) (r s : ℕ) : Type 0 where
  pub within : s ≤ count network
  pub before : (i : ℕ) → i < s → run_of network i < r
  pub after : (i : ℕ) → s ≤ i → i < count network → r ≤ run_of network i

-- where each run starts, and then where the last one ends
pub record AreStarts (network : NetworkModel) (starts : List ℕ) : Type 0 where
  pub valid : IsValid network
  pub each : (r : ℕ) → r < length starts → IsStart network r (slice_index starts r)
  pub some : 0 < length starts
  pub few : length starts ≤ most_connections + 1
  pub whole : slice_index starts (length starts - 1) ≡ count network

-- where each run starts, and up to where its connections remain
pub record AreStretches (network : NetworkModel) (starts remaining : List ℕ) : Type 0 where
  pub begin : AreStarts network starts
  pub size : length starts ≡ length remaining + 1
  pub within : (r : ℕ) → r < length remaining → (slice_index starts r ≤ slice_index remaining r) × (slice_index remaining r ≤ slice_index starts (r + 1))

-- one above the rank of the last connection between two positions, and 0 where there is none
abbrev pub key_between : NetworkModel → ℕ → ℕ → ℕ
key_between network from to = if nat_lt from to then rank network (to - 1) + 1 else 0

-- that of the connections that remain of a run
unfoldable pub key_of : NetworkModel → List ℕ → List ℕ → ℕ → ℕ
key_of network starts remaining r = key_between network (slice_index starts r) (slice_index remaining r)

-- the node this many rounds above a node
abbrev pub above : ℕ → ℕ → ℕ
above zero k = k
above (suc rounds) k = above rounds k / 2

-- the first node is the second one, or is above it
abbrev pub IsOver : ℕ → ℕ → Type 0
IsOver k leaf = (rounds : ℕ) × (above rounds leaf ≡ k)

-- the greatest key below node k is that of a run below it
pub record IsWinner (network : NetworkModel) (starts remaining : List ℕ) (k key : ℕ) : Type 0 where
  pub run : ℕ
  pub within : run < length remaining
  pub below : IsOver k (length remaining + run)
  pub own : key ≡ key_of network starts remaining run
  pub best : (r : ℕ) → r < length remaining → IsOver k (length remaining + r) → key_of network starts remaining r ≤ key

-- each node has the greatest key below it
pub record IsTournament (network : NetworkModel) (starts remaining keys : List ℕ) : Type 0 where
  pub size : length keys ≡ 2 * length remaining
  pub each : (k : ℕ) → 0 < k → k < 2 * length remaining → IsWinner network starts remaining k (slice_index keys k)

-- what remains of the runs, and the tournament over it
pub record IsMerge (network : NetworkModel) (starts remaining keys : List ℕ) : Type 0 where
  pub stretches : AreStretches network starts remaining
  pub tournament : IsTournament network starts remaining keys

-- departures do not fall between two positions
abbrev pub DepartsInOrder : NetworkModel → ℕ → ℕ → Type 0
DepartsInOrder network from to = (i j : ℕ) → from ≤ i → i ≤ j → j < to → dep_of network i ≤ dep_of network j

-- between two positions, the connections before low depart by a moment, and those from high on after it
pub record IsParted (network : NetworkModel) (last from low high to : ℕ) : Type 0 where
  pub begin : from ≤ low
  pub ordered : low ≤ high
  pub end : high ≤ to
  pub soon : (i : ℕ) → from ≤ i → i < low → dep_of network i ≤ last
  pub late : (i : ℕ) → high ≤ i → i < to → last < dep_of network i

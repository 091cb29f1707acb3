-- A network with gates: places more, from each of which one is at a source a second later.
use Rattle.std.specs.Prelude.{◌≡◌, ◌≢◌, ℕ, ◌+◌, ◌<◌, ◌≤◌, ◌↔◌, ◌==◌, List, [], ◌∷◌, ◌++◌, length, map, replicate, slice_index_or, if◌then◌else◌, Option, Some}
use Rattle.std.specs.{Prelude.{None, All, ◌^◌}, List.range_with_len}
use Rattle.plan_model.specs.{declared.model.{PlaceId.PlaceId, Way.Way}, Network.{NetworkModel, links_into}, Ways.way_of, Tree.Tree, Strategy.IsSafe}
use Rattle.plan_model.specs.{Strategy.IsSafeFromStart, View.IsView}

-- the sources are places of the network, and there is a number for each gate
pub record FitGates (m : NetworkModel) (sources : List PlaceId) : Type 0 where
  pub there : All (λ source. source.0 < length m.change) sources
  pub few : length m.change + length sources < 2 ^ 32

-- the k-th of the sources
abbrev pub source_at : List PlaceId → ℕ → ℕ
source_at sources k = (slice_index_or sources k (record { 0 = 0 })).0

-- one second from a gate
abbrev pub way_from : ℕ → Way
way_from gate = record { from = record { 0 = gate }; seconds = 1 }

-- the way from a gate to its source, if that is the place
abbrev pub way_if_to : ℕ → PlaceId → ℕ → List Way
way_if_to gate source place = if place == source.0 then way_from gate ∷ [] else []

-- the ways into a place from the gates of the sources, which are numbered from a first one on
abbrev pub ways_from_gates : ℕ → List PlaceId → ℕ → List Way
ways_from_gates gate [] place = []
ways_from_gates gate (source ∷ sources) place = way_if_to gate source place ++ ways_from_gates (gate + 1) sources place

-- the links of the network into a place, and those from the gates
abbrev pub links_with_gates : NetworkModel → List PlaceId → ℕ → List Way
links_with_gates network sources place = links_into network place ++ ways_from_gates (length network.change) sources place

-- how many places there are with the gates
abbrev pub places_with : NetworkModel → List PlaceId → ℕ
places_with network sources = length network.change + length sources

-- the network with a gate for each source, behind its places and in the order of the sources; a link of one second leads from a gate to its source, no
-- link leads into a gate, and none of their own changes is ever of use
abbrev pub extended_by : NetworkModel → List PlaceId → NetworkModel
extended_by network sources = record {
  connections = network.connections;
  change = network.change ++ replicate (length sources) 1;
  classes = network.classes;
  links = map (links_with_gates network sources) (range_with_len 0 (places_with network sources));
}

-- the gate is no place of the network that the longer one shows, and from it one way leads: to the source, in one second
pub record IsGate (longer network : NetworkModel) (gate source : ℕ) : Type 0 where
  pub view : IsView longer network 0 0
  pub added : length network.change ≤ gate
  pub source_there : source < length network.change
  pub link : way_of longer gate source ≡ Some 1
  pub only : (to seconds : ℕ) → to < length network.change → way_of longer gate to ≡ Some seconds → to ≡ source

-- the longer network is the network with a gate for each source, into which no way leads from elsewhere
pub record HasGates (longer network : NetworkModel) (sources : List PlaceId) : Type 0 where
  pub places : length longer.change ≡ places_with network sources
  pub gates : (k : ℕ) → k < length sources → IsGate longer network (length network.change + k) (source_at sources k)
  pub closed : (from to : ℕ) → length network.change ≤ to → from ≢ to → way_of longer from to ≡ None

-- from the gate exactly those trees are safe which are safe from the source a second later
abbrev pub SafeFromGate : NetworkModel → NetworkModel → (gate source : ℕ) → Type 0
SafeFromGate longer network gate source =
    (target : ℕ) (deadline : Option ℕ) (tree : Tree) (moment : ℕ) → target < length network.change → source ≢ target →
    IsSafe longer target deadline tree gate moment ↔ IsSafeFromStart network target deadline tree source (moment + 1)

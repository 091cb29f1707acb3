-- Networks that differ from another in one thing.
use Rattle.std.specs.Prelude.{◌≡◌, ℕ, ◌<◌, ◌≤◌, List, length, All, Contains}
use Rattle.plan_model.specs.{declared.model.{Connection.Connection, Outcome.Outcome, Way.Way}, Network.{NetworkModel, change_of, row_of, links_into}}

-- what stays where it is
abbrev pub own : ℕ → ℕ
own i = i

-- the connection with its run under another number
abbrev pub renamed : (ℕ → ℕ) → Connection → Connection
renamed number c = record c { run = record { 0 = number c.run.0 } }

-- each connection of the network is among the others, with its run under another number
abbrev pub AreAmong : NetworkModel → (number : ℕ → ℕ) → List Connection → Type 0
AreAmong network number connections = All (λ c. Contains connections (renamed number c)) network.connections

-- the network with other connections
abbrev pub with_connections : NetworkModel → List Connection → NetworkModel
with_connections network connections = record { connections = connections; change = network.change; classes = network.classes; links = network.links }

-- the network with other change times
abbrev pub with_changes : NetworkModel → List ℕ → NetworkModel
with_changes network change = record { connections = network.connections; change = change; classes = network.classes; links = network.links }

-- the network with other classes
abbrev pub with_classes : NetworkModel → List (List Outcome) → NetworkModel
with_classes network classes = record { connections = network.connections; change = network.change; classes = classes; links = network.links }

-- the network with other links
abbrev pub with_links : NetworkModel → List (List Way) → NetworkModel
with_links network links = record { connections = network.connections; change = network.change; classes = network.classes; links = links }

-- at no place of the network a change takes longer
abbrev pub AreShorter : NetworkModel → List ℕ → Type 0
AreShorter network change = (place : ℕ) → place < length network.change → change_of (with_changes network change) place ≤ change_of network place

-- each delay of the row is no greater than one of the other
abbrev pub DelaysNoMore : List Outcome → List Outcome → Type 0
DelaysNoMore row others = All (λ o. (other : Outcome) × Contains others other × (o.delay ≤ other.delay)) row

-- each class has no greater delays
abbrev pub AreLessLate : NetworkModel → List (List Outcome) → Type 0
AreLessLate network classes = (class : ℕ) → class < length network.classes → DelaysNoMore (row_of (with_classes network classes) class) (row_of network class)

-- each link into a place of the network is among the others, from the same place and no longer
abbrev pub AreNoFewer : NetworkModel → List (List Way) → Type 0
AreNoFewer network links = (place : ℕ) → place < length network.change →
    All (λ way. (other : Way) × Contains (links_into (with_links network links) place) other × (other.from.0 ≡ way.from.0) × (other.seconds ≤ way.seconds))
    (links_into network place)

-- The connections that can be boarded from each place by a moment, and the least of their values.
use Rattle.std.specs.Prelude.{◌≡◌, ℕ, ◌<◌, ◌≤◌, List, Option, None, All, AllPairs, Contains, Some, IsTrue, length, slice_index_or, ◌+◌, []}
use Rattle.plan_model.specs.{declared.departure.Departure.Departure, Network.{NetworkModel, count, dep_of, connection}, Order.{IsEarlier, departure_of}}
use Rattle.plan_model.specs.Strategy.{IsBoardable}
use Rattle.lower_proof.specs.{Certificates.{bound_of, IsLeastOf}, declared.board.Entry.Entry}

-- no connection that departs after a moment has a value
abbrev pub NoneAfter : NetworkModel → List (Option ℕ) → ℕ → Type 0
NoneAfter network values last = (c : ℕ) → c < count network → last < dep_of network c → bound_of values c ≡ None

-- it is a connection with its departure, which is by a moment
abbrev pub IsDepartingBy : NetworkModel → ℕ → Departure → Type 0
IsDepartingBy network last d = (d.id.0 < count network) × (d.dep.0 ≡ dep_of network d.id.0) × (d.dep.0 ≤ last)

-- these are the connections that depart by a moment, in the scan order
pub record AreDepartingBy (network : NetworkModel) (last : ℕ) (departures : List Departure) : Type 0 where
  pub each : All (IsDepartingBy network last) departures
  pub all : (c : ℕ) → c < count network → dep_of network c ≤ last → Contains departures (departure_of network (record { 0 = c }))
  pub rising : AllPairs (λ a b. IsEarlier network a.id.0 b.id.0) departures

-- the entry at this position
abbrev pub entry_at : List Entry → ℕ → Entry
entry_at entries k = slice_index_or entries k (record { by = record { 0 = 0 }; id = record { 0 = 0 } })

-- it can be boarded by a traveller who arrives at the place by its moment
pub record IsEntry (network : NetworkModel) (p : ℕ) (e : Entry) : Type 0 where
  pub there : e.id.0 < count network
  pub board : IsTrue (connection network e.id.0).can_board
  pub early : (x : ℕ) → x ≤ e.by.0 → IsBoardable network p x e.id.0
  pub late : (x : ℕ) → IsBoardable network p x e.id.0 → x ≤ e.by.0

-- these are the connections that can be boarded from a place, of the first m; those that depart after a moment may be left out
pub record AreEntries (network : NetworkModel) (last p m : ℕ) (entries : List Entry) : Type 0 where
  pub each : (k : ℕ) → k < length entries → IsEntry network p (entry_at entries k)
  pub all : (c x : ℕ) → c < m → dep_of network c ≤ last → IsTrue (connection network c).can_board → IsBoardable network p x c → (k : ℕ) × (k < length entries) × ((entry_at entries k).id.0 ≡ c)

-- the later one may arrive, the sooner it comes
abbrev pub Falls : List Entry → Type 0
Falls entries = AllPairs (λ a b. b.by.0 ≤ a.by.0) entries

-- one of the first m entries has this value
abbrev pub FrontValue : List (Option ℕ) → List Entry → ℕ → ℕ → Type 0
FrontValue values entries m v = (k : ℕ) × (k < m) × (bound_of values (entry_at entries k).id.0 ≡ Some v)

-- one of the entries has this value, and is in time for an arrival
abbrev pub ValueInTime : List (Option ℕ) → List Entry → ℕ → ℕ → Type 0
ValueInTime values entries x v = (k : ℕ) × (k < length entries) × (x ≤ (entry_at entries k).by.0) × (bound_of values (entry_at entries k).id.0 ≡ Some v)

-- the least value of the first k + 1 entries, as far as it is known
abbrev pub least_of : List (Option ℕ) → ℕ → Option ℕ
least_of least k = slice_index_or least k None

-- the entries of a place, and the least values that are known
pub record ShownBoard : Type 0 where
  pub entries : List Entry
  pub least : List (Option ℕ)

-- each is the least of its front part
abbrev pub AreMinima : List (Option ℕ) → List Entry → List (Option ℕ) → ℕ → Type 0
AreMinima values entries least known = (k : ℕ) → k < known → IsLeastOf (FrontValue values entries (k + 1)) (least_of least k)

-- those that are known are not before a moment
abbrev pub AreLate : ℕ → List Entry → ℕ → Type 0
AreLate moment entries known = (k : ℕ) → k < known → moment ≤ (entry_at entries k).by.0

-- the entries fall, and what is known of them is right by these values
pub record IsBoard (values : List (Option ℕ)) (board : ShownBoard) : Type 0 where
  pub sizes : length board.least ≤ length board.entries
  pub falls : Falls board.entries
  pub minima : AreMinima values board.entries board.least (length board.least)

-- the board of a place
abbrev pub board_at : List ShownBoard → ℕ → ShownBoard
board_at boards p = slice_index_or boards p (record { entries = []; least = [] })

-- the board of a place has all connections that can be boarded from there
pub record IsBoardOf (network : NetworkModel) (last p : ℕ) (values : List (Option ℕ)) (board : ShownBoard) : Type 0 where
  pub entries : AreEntries network last p (count network) board.entries
  pub right : IsBoard values board

-- each place has its board, and no connection that is left out has a value
pub record AreBoards (network : NetworkModel) (last : ℕ) (values : List (Option ℕ)) (boards : List ShownBoard) : Type 0 where
  pub as_many : length boards ≡ length network.change
  pub each : (p : ℕ) → p < length boards → IsBoardOf network last p values (board_at boards p)
  pub none_after : NoneAfter network values last

-- what is known is not before a moment
abbrev pub AllLate : ℕ → List ShownBoard → Type 0
AllLate moment boards = (p : ℕ) → p < length boards → AreLate moment (board_at boards p).entries (length (board_at boards p).least)

-- nothing is known yet: the boards are right for all values without one after a moment, and what is known is late
pub record AreFresh (network : NetworkModel) (last : ℕ) (boards : List ShownBoard) : Type 0 where
  pub right : (values : List (Option ℕ)) → NoneAfter network values last → AreBoards network last values boards
  pub late : (m : ℕ) → AllLate m boards

-- each board has the first m connections, and nothing is known of it
abbrev pub HaveEntries : NetworkModel → ℕ → ℕ → List ShownBoard → Type 0
HaveEntries network last m boards = (p : ℕ) → p < length boards → AreEntries network last p m (board_at boards p).entries × ((board_at boards p).least ≡ [])

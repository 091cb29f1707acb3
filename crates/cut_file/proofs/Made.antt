-- The network that is made.
use Rattle.cut_file.proofs.Common.{◌≡◌, ℕ, ◌+◌, ◌<◌, List, [], ◌∷◌, ◌++◌, length, get_or, arith, below_more, get_or_append_left, get_or_push, length-append, plain_network, change_of, DelayLists}
use Rattle.cut_file.proofs.Common.{CutRow, Key, key_at, Cut, cut_row, AreConnections, IsConnection, IsNetwork, longest, change_from}
use Rattle.plan_model.specs.declared.model.{Connection.Connection, Outcome.Outcome}

-- the connections, one more at a time
pub connections-next : (delays : DelayLists) (rows : List CutRow) (keys : List Key) (n : ℕ) (old new : List Connection) (c : Connection)
    → AreConnections delays rows keys n old → new ≡ old ++ c ∷ [] → IsConnection delays (cut_row rows (key_at keys n).row) c → AreConnections delays rows keys (n + 1) new
connections-next delays rows keys n old new c are e here = grind (arith, below_more, get_or_append_left, get_or_push, length-append)

pub make_network : (cut : Cut) (delays : DelayLists) (r : List CutRow) (k : List Key) (places : ℕ) (connections : List Connection) (change : List ℕ) (classes : List (List Outcome))
    → r ≡ cut.rows → k ≡ cut.keys → places ≡ length cut.places → length change ≡ places
    → ((p : ℕ) → p < places → get_or change p 0 ≡ change_from (longest r (length r) p)) → AreConnections delays r k (length k) connections → classes ≡ delays.classes
    → IsNetwork cut delays (plain_network connections change classes)
unfolding change_of
make_network cut delays r k places connections change classes e f count size each made same = grind arith

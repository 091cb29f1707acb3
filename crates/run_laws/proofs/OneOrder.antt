-- A network has one scan order.
use Rattle.std.proofs.Common.{rules}
use Rattle.run_laws.proofs.{Common.{◌≡◌, ◌<◌, List, arith, All-contains, ConnectionId, NetworkModel, count, IsScanOrder, IsEarlier}, Rising.{HasAll, one_rising}}
use Rattle.plan_model.proofs.ScanOrders.{HasEachId, has_each_id}

abbrev Before : NetworkModel → ConnectionId → ConnectionId → Type 0
Before n a b = IsEarlier n a.0 b.0

one_way : (n : NetworkModel) (a b : ConnectionId) → Before n a b → Before n b a → ⊥
one_way n a b first second = grind arith

has_all : (n : NetworkModel) (xs ys : List ConnectionId) → HasEachId n xs → HasEachId n ys → HasAll xs ys
has_all n xs ys each others id has = others.all id.0 (All-contains (λ (i : ConnectionId). i.0 < count n) xs id each.within has)

pub one_order : (n : NetworkModel) (xs ys : List ConnectionId) → IsScanOrder n xs → IsScanOrder n ys → xs ≡ ys
one_order n xs ys order other = search (rules, has_each_id, one_rising, one_way, has_all)

use Rattle.plan_model.proofs.{Common.{◌≡◌, ℕ, ◌+◌, ◌-◌, ◌/◌, ◌<◌, length, get_or, arith, ap, sym, ◌∙◌, get_or_read, Connection, ConnectionId, dep_of}, ScanOrders.has_each_id, Skips.IsHalved-up}
use Rattle.plan_model.proofs.{Skips.{IsHalved-down, IsPrefixUpTo-halved}, order.SortedOrderBackwardOrder.skip_after.Goals.After-index}
use Rattle.plan_model.proofs.order.SortedOrderBackwardOrder.skip_after.Goals as goal

abbrev middle_of : After-index → ℕ
middle_of c = c.loop-low.low + (c.loop-low.high - c.loop-low.low) / 2

within : (c : After-index) → middle_of c < length c.args.self.now.ids.items
within c = omega (arith, c.loop-low-test.true, c.loop-low.invariant.within, c.requires.1)

read : (c : After-index) (d : ConnectionId) → get_or c.args.self.now.ids.items (middle_of c) d ≡ c.index.result.now
read c d = sym (get_or_read c.args.self.now.ids.items (middle_of c) c.index.result.now (within c) c.index.ensures d)

pub get-requires : goal.get-requires
get-requires c = grind (arith, After-index, read, has_each_id, within)

-- when the connection in the middle departs
dep_is : (c : After-index) (dep : ℕ) → dep ≡ dep_of c.args.network.now c.index.result.now.0 → (d : ConnectionId) → dep_of c.args.network.now (get_or c.args.self.now.ids.items (middle_of c) d).0 ≡ dep
dep_is c dep e d = ap (λ (id : ConnectionId). dep_of c.args.network.now id.0) (read c d) ∙ sym e

pub loop-low-preserved-then-dep-last : goal.loop-low-preserved-then-dep-last
loop-low-preserved-then-dep-last c =
    let at = (goal.at.loop-low-preserved-then-dep-last c).After-index in
    let dep = ap (λ (x : Connection). x.dep.0) c.get.ensures.connection in
    IsHalved-up c.args.network.now c.args.self.now.ids.items c.args.last.0 c.args.self.now.remaining c.loop-low.low c.loop-low.high c.requires.0
    c.loop-low.invariant (middle_of at) (omega arith) (omega (arith, c.loop-low-test.true)) c.requires.1
    (λ d. omega (arith, dep_is at c.get.result.dep.0 dep d, c.if-dep-last.true))

pub loop-low-preserved : goal.loop-low-preserved
loop-low-preserved c =
    let at = (goal.at.loop-low-preserved c).After-index in
    let dep = ap (λ (x : Connection). x.dep.0) c.get.ensures.connection in
    IsHalved-down c.args.network.now c.args.self.now.ids.items c.args.last.0 c.args.self.now.remaining c.loop-low.low c.loop-low.high c.requires.0
    c.loop-low.invariant (middle_of at) (omega arith) (omega (arith, c.loop-low-test.true)) c.requires.1
    (λ d. omega (arith, dep_is at c.get.result.dep.0 dep d, c.if-dep-last.false))

pub returns-clause-up_to : goal.returns-clause-up_to
returns-clause-up_to c = grind (arith, IsPrefixUpTo-halved)

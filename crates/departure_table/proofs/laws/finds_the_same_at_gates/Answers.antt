use Rattle.departure_table.proofs.SameGates.{found_alike}
use Rattle.departure_table.proofs.laws.finds_the_same_at_gates.Goals as goal

pub returns : goal.returns
returns c = λ m xs ys q x y k j v fit others target first second same order a b is_order rules more next.
    found_alike m v xs ys fit.there others.there fit.few others.few q x y k j first second same target order is_order a b rules more next

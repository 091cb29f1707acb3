-- Networks of the same lists are one.
use Rattle.plan_model.proofs.Common.{◌≡◌, NetworkModel}

pub same_parts : (n m : NetworkModel) → n.connections ≡ m.connections → n.change ≡ m.change → n.classes ≡ m.classes → n.links ≡ m.links → n ≡ m
same_parts n m connections change classes links = λ i. record { connections = connections i; change = change i; classes = classes i; links = links i }

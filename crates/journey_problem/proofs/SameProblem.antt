-- Problems of the same parts are one: the facts that they have are the same.
use Rattle.journey_problem.proofs.Common.{◌≡◌, ◌<◌, length, subst, NetworkModel, IsValid, NameLists, NamesFit, PlaceId, Timetable, Problem}
use Rattle.std.proofs.Props.{props}
use Rattle.std.specs.Coded.{le_prop}
use Rattle.plan_model.specs.Propositions.{IsValid-prop}

NamesFit-prop : (names : NameLists) (network : NetworkModel) → IsProp (NamesFit names network)
NamesFit-prop names network = Prim.hlevel props

pub same_timetable : (s t : Timetable) → s.network ≡ t.network → s.names ≡ t.names → s ≡ t
same_timetable s t network named =
    let P : NetworkModel → NameLists → Type 0 = λ n names. (valid : IsValid n) (fit : NamesFit names n) → s ≡ record { network = n; names = names; valid = valid; fit = fit } in
    let here : P s.network s.names = λ valid fit i. record {
      network = s.network;
      names = s.names;
      valid = IsValid-prop s.network s.valid valid i;
      fit = NamesFit-prop s.names s.network s.fit fit i;
    } in
    subst (λ (names : NameLists). P t.network names) named (subst (λ (n : NetworkModel). P n s.names) network here) t.valid t.fit

pub same_problem : (p q : Problem) → p.timetable.network ≡ q.timetable.network → p.timetable.names ≡ q.timetable.names → p.source ≡ q.source → p.target ≡ q.target → p ≡ q
same_problem p q network named source target =
    let P : Timetable → PlaceId → PlaceId → Type 0 =
    λ t from to. (from_in : from.0 < length t.network.change) (to_in : to.0 < length t.network.change)
    → p ≡ record { timetable = t; source = from; target = to; source_in = from_in; target_in = to_in } in
    let here : P p.timetable p.source p.target = λ from_in to_in i. record {
      timetable = p.timetable;
      source = p.source;
      target = p.target;
      source_in = le_prop p.source_in from_in i;
      target_in = le_prop p.target_in to_in i;
    } in
    subst (λ (to : PlaceId). P q.timetable q.source to) target
    (subst (λ (from : PlaceId). P q.timetable from p.target) source
    (subst (λ (t : Timetable). P t p.source p.target) (same_timetable p.timetable q.timetable network named) here)) q.source_in q.target_in

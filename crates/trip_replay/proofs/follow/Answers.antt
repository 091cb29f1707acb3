use Rattle.trip_replay.proofs.Common.{◌≡◌, ◌∙◌, ℕ, ◌+◌, List, length, drop, Option, Err, sym, ap, arith, subst, All, eqb-true, option_map, eqb-false, All-push, length_push, Tree, by_place}
use Rattle.trip_replay.proofs.{Common.{unfold_after, pick_at, Ridden, walk, IsRidden}, Walks.{is_ride, arrival_after-push, place_after-push, too_many, not_a_delay, after_ride, next_step}}
use Rattle.plan_model.specs.declared.model.Moment.{Moment}
use Rattle.trip_replay.specs.declared.ReplayFault.TheVariants as fault
use Rattle.trip_replay.proofs.follow.Goals as goal

pub returns-then-eq-clause-walk : goal.returns-then-eq-clause-walk
returns-then-eq-clause-walk c =
    let n = c.args.network.now in
    let choice = by_place n (pick_at c.args.graph.now.tables) in
    let s = c.loop-delay.position in
    c.loop-delay.invariant.walk
    ∙ too_many n c.args.query.now.target.0 choice s c.loop-delay.rides c.args.delays.now c.loop-delay.delay-index
    (eqb-true _ _ (sym c.eq.ensures ∙ c.if-eq.true)) c.loop-delay-test.true
    ∙ ap (λ (k : ℕ). Err (fault.TooMany k)) (sym c.len.ensures)

pub returns-in_default-arrival_of-clause-walk : goal.returns-in_default-arrival_of-clause-walk
returns-in_default-arrival_of-clause-walk c =
    let n = c.args.network.now in
    let choice = by_place n (pick_at c.args.graph.now.tables) in
    let s = c.loop-delay.position in
    let none = sym c.arrival_of.ensures ∙ ap (λ (o : Option Moment). option_map (λ moment. moment.0) o) c.in_default-arrival_of.is in
    c.loop-delay.invariant.walk
    ∙ not_a_delay n c.args.query.now.target.0 choice s c.loop-delay.rides c.args.delays.now c.loop-delay.delay-index c.in-Some.leg 0
    (eqb-false _ _ (sym c.eq.ensures ∙ c.if-eq.false)) c.in-Some.is c.loop-delay-test.true none
    ∙ ap (λ (k : ℕ). Err (fault.NotADelay (k + 1))) (sym c.len-in_default-arrival_of.ensures)

pub loop-delay-preserved : goal.loop-delay-preserved
loop-delay-preserved c =
    let n = c.args.network.now in
    let choice = by_place n (pick_at c.args.graph.now.tables) in
    let s = c.loop-delay.position in
    let target = c.args.query.now.target.0 in
    let behind = c.loop-delay.rides in
    let rest = drop (c.loop-delay.delay-index + 1) c.args.delays.now in
    let some = sym c.arrival_of.ensures ∙ ap (λ (o : Option Moment). option_map (λ moment. moment.0) o) c.in-Some-arrival_of.is in
    let pushed = c.in_ok-push.ensures.ok in
    let more : length c.push.new.self ≡ length behind + 1 = ap (λ (list : List Ridden). length list) pushed ∙ length_push behind _ in
    let (is_leg, few) = rw c.in-Some.is at c.loop-delay.invariant.next in
    record {
      walk = c.loop-delay.invariant.walk
          ∙ after_ride n target choice s behind c.args.delays.now c.loop-delay.delay-index c.in-Some.leg 0 c.in-Some-arrival_of.arrival.0
          (eqb-false s.place.0 target (sym c.eq.ensures ∙ c.if-eq.false)) c.in-Some.is c.loop-delay-test.true some
          ∙ ap (λ (list : List Ridden). walk n (unfold_after n target choice s.remaining c.in-Some.leg c.in-Some-arrival_of.arrival.0) rest list) (sym pushed)
          ∙ ap (λ (tree : Tree). walk n tree rest c.push.new.self) (sym c.position_after-position.ensures.tree);
      next = grind (arith, next_step);
      few = omega (arith, more, few, c.position_after-position.ensures.remaining);
      rides = subst (All (IsRidden n)) (sym pushed)
          (All-push (IsRidden n) behind _ c.loop-delay.invariant.rides
          (is_ride n c.in-Some.leg _ c.in-Some-arrival_of.arrival.0 is_leg some));
      place = grind (arith, place_after-push);
      arrival = grind (arith, arrival_after-push);
    }

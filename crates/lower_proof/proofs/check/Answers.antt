use Rattle.lower_proof.proofs.{Common.{◌≡◌, ℕ, List, Option, length, arith, rules, ap, take_at, length-set, connection}, Exits.{check_first, check_there, check_next, check_fails, check_last}}
use Rattle.lower_proof.proofs.Best.{sound}
use Rattle.lower_proof.proofs.check.Goals as goal

pub loop-departure-init : goal.loop-departure-init
loop-departure-init c = record {
  state = check_first c.in_ok-departures.ensures.valid c.last_departure-last.ensures.deadline c.last_departure-last.ensures.none
      c.in_ok-departures.ensures.departures c.in_ok-exits.ensures.runs c.in_ok-exits.ensures.empty;
  boards = c.in_ok-boards.ensures.fresh.right c.as_slice-values.result.now c.last_departure-last.ensures.none;
}

pub offer-best-requires-clause-boards : goal.offer-best-requires-clause-boards
offer-best-requires-clause-boards c = rw c.deref_mut.ensures.value c.loop-departure.invariant.boards

pub invariant_of-site : goal.invariant_of-site
invariant_of-site c = record { there = check_there c.in_ok-departures.ensures.valid c.loop-departure.invariant.state _ _ c.in-Some.ensures.items }

pub offer-best-requires-clause-run : goal.offer-best-requires-clause-run
offer-best-requires-clause-run c = let state = c.loop-departure.invariant.state in
    rw c.deref_mut-in-Some.ensures.value (state.scanned.runs c.in-Some.departure.id.0 (check_there c.in_ok-departures.ensures.valid state _ _ c.in-Some.ensures.items))

pub get-requires : goal.get-requires
get-requires c = check_there c.in_ok-departures.ensures.valid c.loop-departure.invariant.state _ _ c.in-Some.ensures.items

pub returns-then-not-is_kept-clause-verdict : goal.returns-then-not-is_kept-clause-verdict
returns-then-not-is_kept-clause-verdict c =
    let best = rw c.deref_mut-in-Some.ensures.value at c.offer-best.ensures.best in
    let fails = rw (c.get.ensures.connection, c.value_of.ensures) at c.is_kept.ensures.fails (search rules) in
    rw (← c.as_slice-values.ensures) (check_fails c.in_ok-departures.ensures.valid c.loop-departure.invariant.state _ _ c.in-Some.ensures.items best fails.0 fails.1)

pub loop-departure-preserved : goal.loop-departure-preserved
loop-departure-preserved c =
    let loop = c.loop-departure in
    let run = (connection c.args.network.now c.in-Some.departure.id.0).run.0 in
    let best = rw c.deref_mut-in-Some.ensures.value at c.offer-best.ensures.best in
    let exits = rw c.deref_mut-in-Some.ensures.value at c.offer-best.ensures.exits in
    let all : length c.offer-best.new.exits ≡ loop.exits.len =
    omega (arith, ap (λ (list : List (Option ℕ)). length list) exits, length-set loop.exits.items run c.offer-best.result, loop.exits.ok.0) in
    let places : length c.offer-best.new.boards ≡ loop.boards.len = omega (arith, c.offer-best.ensures.boards.as_many, loop.invariant.boards.as_many, loop.boards.ok.0) in
    let kept = rw (c.get.ensures.connection, c.value_of.ensures) at c.is_kept.ensures.kept (search rules) in
    rw (take_at, take_at, exits) (record {
      state = check_next c.in_ok-departures.ensures.valid loop.invariant.state _ _ c.in-Some.ensures.items best kept;
      boards = c.offer-best.ensures.boards;
    })

pub returns-clause-verdict : goal.returns-clause-verdict
returns-clause-verdict c = rw (← c.as_slice-values.ensures)
    (check_last c.in_ok-departures.ensures.valid c.loop-departure.invariant.state (omega (arith, c.loop-departure.departures.ok.0, c.in_default.ensures.cases.0)))

pub returns-clause-sound : goal.returns-clause-sound
returns-clause-sound c = λ holds. sound c.args.network.now c.args.query.now c.args.proof.now.values (returns-clause-verdict c)

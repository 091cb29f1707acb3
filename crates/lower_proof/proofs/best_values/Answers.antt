use Rattle.lower_proof.proofs.{Common.{◌≡◌, ℕ, List, Option, length, arith, sym, ap, take_at, length-set, Connection, connection}, Written.{given, written_first, written_there, written_next}}
use Rattle.lower_proof.proofs.{Written.written_last, best_values.Goals.{then-get, else-get}}
use Rattle.lower_proof.proofs.best_values.Goals as goal

pub loop-departure-init : goal.loop-departure-init
loop-departure-init c = record {
  written = written_first c.in_ok-departures.ensures.valid (omega arith) c.in_ok-values.ensures.as_many c.in_ok-departures.ensures.departures c.in_ok-exits.ensures.runs c.in_ok-exits.ensures.empty
      (c.in_ok-boards.ensures.fresh.right c.in_ok-values.values.items (λ k inside late. c.in_ok-values.ensures.none k)) c.in_ok-boards.ensures.fresh.late;
}

pub offer-best-requires-clause-boards : goal.offer-best-requires-clause-boards
offer-best-requires-clause-boards c = rw (c.deref_mut.ensures.value, c.deref.ensures.value) c.loop-departure.invariant.written.right

pub invariant_of-site : goal.invariant_of-site
invariant_of-site c = record { there = written_there c.in_ok-departures.ensures.valid c.loop-departure.invariant.written _ _ c.in-Some.ensures.items }

pub offer-best-requires-clause-run : goal.offer-best-requires-clause-run
offer-best-requires-clause-run c = let written = c.loop-departure.invariant.written in
    rw c.deref_mut-in-Some.ensures.value (written.scanned.runs c.in-Some.departure.id.0 (written_there c.in_ok-departures.ensures.valid written _ _ c.in-Some.ensures.items))

pub get-requires : goal.get-requires
get-requires c = written_there c.in_ok-departures.ensures.valid c.loop-departure.invariant.written _ _ c.in-Some.ensures.items

pub index_mut-requires : goal.index_mut-requires
index_mut-requires c = let written = c.loop-departure.invariant.written in
    omega (arith, written_there c.in_ok-departures.ensures.valid written _ _ c.in-Some.ensures.items, written.as_many, c.loop-departure.values.ok.0)

pub loop-departure-preserved : goal.loop-departure-preserved
loop-departure-preserved c =
    let loop = c.loop-departure in
    let best = c.offer-best.result in
    let run = (connection c.args.network.now c.in-Some.departure.id.0).run.0 in
    let can_board = (connection c.args.network.now c.in-Some.departure.id.0).can_board in
    let board_is = ap (λ (k : Connection). k.can_board) (sym c.get.ensures.connection) in
    let own_is : c.if-get.own ≡ given can_board best = grind (arith, then-get, else-get) in
    let least = rw (c.deref_mut-in-Some.ensures.value, c.deref.ensures.value) at c.offer-best.ensures.best in
    let exits = rw c.deref_mut-in-Some.ensures.value at c.offer-best.ensures.exits in
    let boards = rw c.deref.ensures.value at c.offer-best.ensures.boards in
    let late = rw c.deref_mut.ensures.value at c.offer-best.ensures.late in
    let all : length c.offer-best.new.exits ≡ loop.exits.len = omega (arith, ap (λ (list : List (Option ℕ)). length list) exits, length-set loop.exits.items run best, loop.exits.ok.0) in
    let places : length c.offer-best.new.boards ≡ loop.boards.len = omega (arith, c.offer-best.ensures.boards.as_many, loop.invariant.written.right.as_many, loop.boards.ok.0) in
    rw (take_at, take_at, exits, own_is) (record {
      written = written_next c.in_ok-departures.ensures.valid loop.invariant.written _ _ c.in-Some.ensures.items least boards late;
    })

pub returns-clause-tight : goal.returns-clause-tight
returns-clause-tight c = written_last c.in_ok-departures.ensures.valid c.loop-departure.invariant.written (omega (arith, c.loop-departure.departures.ok.0, c.in_default.ensures.cases.0))

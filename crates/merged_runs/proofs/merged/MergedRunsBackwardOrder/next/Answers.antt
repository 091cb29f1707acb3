use Rattle.merged_runs.proofs.Common.{◌≡◌, ℕ, List, ◌-◌, ◌<◌, ◌%◌, ◌++◌, ◌∷◌, [], length, get_or, set, arith, ap, sym, ◌∙◌, eqb-true, eqb-false, get_or_read, length_push, most_connections}
use Rattle.merged_runs.proofs.{Common.{Connection, connection, rest_of}, StretchLemmas.rest_of-none, TournamentLemmas.{HasWon, won, rest_of-exhausted, rest_of-given}}
use Rattle.merged_runs.proofs.merged.MergedRunsBackwardOrder.next.Goals.{After-index-key, After-get-run}
use Rattle.merged_runs.proofs.merged.MergedRunsBackwardOrder.next.Goals as goal

pub returns-then-is_empty-clause-none : goal.returns-then-is_empty-clause-none
returns-then-is_empty-clause-none c = grind (arith, eqb-true, rest_of-none)

some_runs : (c : After-index-key) → 0 < length c.args.self.now.remaining.items
some_runs c = omega (arith, c.args.self.now.remaining.ok.0, eqb-false _ 0 (sym c.if-is_empty.ensures))

final : (c : After-index-key) → c.index-key.result.now ≡ get_or c.args.self.now.keys.items 1 0
final c = grind (arith, get_or_read, some_runs)

pub returns-then-key-eq0-clause-none : goal.returns-then-key-eq0-clause-none
returns-then-key-eq0-clause-none c = grind (arith, rest_of-exhausted, final)

-- the run that won
has_won : (c : After-index-key) → (c.index-key.result.now ≡ 0 → ⊥) → HasWon c.args.network.now c.args.self.now.starts.items c.args.self.now.remaining.items c.index-key.result.now
has_won c some =
    let s = c.args.self.now in
    won c.args.network.now s.starts.items s.remaining.items s.keys.items c.requires c.index-key.result.now (final c) (some_runs c) (omega (arith, some))

pub get-run-requires : goal.get-run-requires
get-run-requires c =
    let w = has_won (goal.at.get-run-requires c).After-index-key c.if-key-eq0.false in
    omega (arith, w.id, w.there)

-- its number is that of the connection
run_is : (c : After-get-run) → (w : HasWon c.args.network.now c.args.self.now.starts.items c.args.self.now.remaining.items c.index-key.result.now) → c.get-run.result.run.0 ≡ w.run
run_is c w = ap (λ (x : Connection). x.run.0) c.get-run.ensures.connection ∙ ap (λ (i : ℕ). (connection c.args.network.now i).run.0) w.id ∙ w.own

pub give-requires-clause-run : goal.give-requires-clause-run
give-requires-clause-run c =
    let at = goal.at.give-requires-clause-run c in
    let w = has_won at.After-index-key c.if-key-eq0.false in
    omega (arith, run_is at.After-get-run w, w.within)

pub give-requires-clause-some : goal.give-requires-clause-some
give-requires-clause-some c =
    let at = goal.at.give-requires-clause-some c in
    let w = has_won at.After-index-key c.if-key-eq0.false in
    rw (run_is at.After-get-run w) w.some

-- what one step leaves
step : (c : After-get-run) (after : List ℕ) → c.index-key.result.now ≡ get_or c.args.self.now.keys.items 1 0
    → HasWon c.args.network.now c.args.self.now.starts.items c.args.self.now.remaining.items c.index-key.result.now
    → after ≡ set c.args.self.now.remaining.items c.get-run.result.run.0 (get_or c.args.self.now.remaining.items c.get-run.result.run.0 0 - 1)
    → rest_of c.args.network.now c.args.self.now.remaining.items ≡ rest_of c.args.network.now after ++ record { 0 = (c.index-key.result.now - 1) % most_connections } ∷ []
step c after greatest w all =
    let s = c.args.self.now in
    rw (all, run_is c w, w.id) (rest_of-given c.args.network.now s.starts.items s.remaining.items s.keys.items c.requires c.index-key.result.now greatest w)

pub returns-clause-none : goal.returns-clause-none
returns-clause-none c =
    let at = goal.at.returns-clause-none c in
    let remaining = step at.After-get-run c.give.new.self.remaining.items (final at.After-index-key) (has_won at.After-index-key c.if-key-eq0.false) c.give.ensures.remaining in (
      λ e. absurd (cc),
      λ none. absurd (omega (
        arith,
        ap length none,
        ap length remaining,
        length_push
            (rest_of c.args.network.now c.give.new.self.remaining.items) (record { 0 = (c.index-key.result.now - 1) % most_connections }),
      )),
    )

pub returns-clause-last : goal.returns-clause-last
returns-clause-last c =
    let at = goal.at.returns-clause-last c in
    step at.After-get-run c.give.new.self.remaining.items (final at.After-index-key) (has_won at.After-index-key c.if-key-eq0.false) c.give.ensures.remaining

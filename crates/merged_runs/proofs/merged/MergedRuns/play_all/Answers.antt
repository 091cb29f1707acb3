use Rattle.merged_runs.proofs.{Common.{◌≡◌, ◌≤◌, ◌<◌, ◌*◌, ◌+◌, ◌-◌, length, get_or, arith, ap, ◌∙◌, get_or_read}, StretchLemmas.key_of-between, SkipLemmas.stretch_is}
use Rattle.merged_runs.proofs.TournamentLemmas.{AreRead-more, IsPlayedFrom-runs, IsPlayedFrom-more, IsWinner-max}
use Rattle.merged_runs.proofs.merged.MergedRuns.play_all.Goals as goal

pub loop-node-init : goal.loop-node-init
loop-node-init c =
    let s = c.args.self.now in
    let inv = c.loop-run.invariant in
    let all : c.len-runs.result ≡ length s.remaining.items = omega (arith, c.len-runs.ensures, s.remaining.ok.0) in
    let done : length s.remaining.items ≤ c.loop-run.run = omega (arith, all, c.loop-run-test.false) in
    record { starts = inv.starts; remaining = inv.remaining; played = rw all (IsPlayedFrom-runs c.args.network.now s.starts.items s.remaining.items c.loop-run.self.keys.items c.loop-run.run done inv.read) }

pub invariant_of-stretch : goal.invariant_of-stretch
invariant_of-stretch c =
    let s = c.args.self.now in
    let inv = c.loop-run.invariant in
    let run = c.loop-run.run in
    let within : run < length s.remaining.items = omega (arith, c.len-runs.ensures, s.remaining.ok.0, c.loop-run-test.true) in
    let from : c.index.result.now ≡ get_or s.starts.items run 0 =
    get_or_read c.loop-run.self.starts.items run c.index.result.now
    (omega (arith, within, c.requires.size, ap length inv.starts)) c.index.ensures 0 ∙ ap (λ xs. get_or xs run 0) inv.starts in
    let to : c.index-in-loop-run.result.now ≡ get_or s.remaining.items run 0 =
    get_or_read c.loop-run.self.remaining.items run c.index-in-loop-run.result.now
    (omega (arith, within, ap length inv.remaining)) c.index-in-loop-run.ensures 0 ∙ ap (λ xs. get_or xs run 0) inv.remaining in
    let is = stretch_is c.args.network.now s.starts.items s.remaining.items c.requires run within c.index.result.now c.index-in-loop-run.result.now from (omega (arith, to)) in
    record { ordered = omega (arith, from, to, (c.requires.within run within).0); within = is.0; rising = is.1 }

pub loop-run-preserved : goal.loop-run-preserved
loop-run-preserved c =
    let s = c.args.self.now in
    let inv = c.loop-run.invariant in
    let run = c.loop-run.run in
    let all : c.len-runs.result ≡ length s.remaining.items = omega (arith, c.len-runs.ensures, s.remaining.ok.0) in
    let within : run < length s.remaining.items = omega (arith, all, c.loop-run-test.true) in
    let from : c.index.result.now ≡ get_or s.starts.items run 0 =
    get_or_read c.loop-run.self.starts.items run c.index.result.now
    (omega (arith, within, c.requires.size, ap length inv.starts)) c.index.ensures 0 ∙ ap (λ xs. get_or xs run 0) inv.starts in
    let to : c.index-in-loop-run.result.now ≡ get_or s.remaining.items run 0 =
    get_or_read c.loop-run.self.remaining.items run c.index-in-loop-run.result.now
    (omega (arith, within, ap length inv.remaining)) c.index-in-loop-run.ensures 0 ∙ ap (λ xs. get_or xs run 0) inv.remaining in
    let key = key_of-between c.args.network.now s.starts.items s.remaining.items run c.index.result.now c.index-in-loop-run.result.now c.key.result from to c.key.ensures in
    record {
      starts = inv.starts;
      remaining = inv.remaining;
      read = rw all (AreRead-more c.args.network.now s.starts.items s.remaining.items c.loop-run.self.keys.items run c.key.result within inv.read key);
    }

pub loop-node-preserved : goal.loop-node-preserved
loop-node-preserved c =
    let s = c.args.self.now in
    let inv = c.loop-node.invariant in
    let keys = c.loop-node.self.keys.items in
    let node = c.loop-node.node - 1 in
    let all : c.len-runs.result ≡ length s.remaining.items = omega (arith, c.len-runs.ensures, s.remaining.ok.0) in
    let high : node < length s.remaining.items = omega (arith, all, c.loop-node.auto.node, c.loop-node-test.true) in
    let first = get_or_read keys (2 * node) c.index-in-loop-node.result.now (omega (arith, high, inv.played.size)) c.index-in-loop-node.ensures 0 in
    let second = get_or_read keys (2 * node + 1) c.index-in-loop-node-2.result.now (omega (arith, high, inv.played.size)) c.index-in-loop-node-2.ensures 0 in
    let won = IsWinner-max c.args.network.now s.starts.items s.remaining.items node (get_or keys (2 * node) 0) (get_or keys (2 * node + 1) 0) c.max.result (omega (arith, c.loop-node-test.true)) high
    (inv.played.each (2 * node) (omega (arith, c.loop-node-test.true)) (omega (arith, c.loop-node-test.true)) (omega (arith, high)))
    (inv.played.each (2 * node + 1) (omega (arith, c.loop-node-test.true)) (omega arith) (omega (arith, high)))
    (rw (first, second) at c.max.ensures) in
    record {
      starts = inv.starts;
      remaining = inv.remaining;
      played = IsPlayedFrom-more c.args.network.now s.starts.items s.remaining.items keys c.loop-node.node c.max.result (omega (arith, c.loop-node-test.true)) (omega (arith, high)) inv.played won;
    }

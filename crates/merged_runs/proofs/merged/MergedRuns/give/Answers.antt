use Rattle.merged_runs.proofs.{Common.{◌≡◌, ◌<◌, ◌-◌, ◌+◌, ◌*◌, ◌/◌, length, get_or, set, get_or-set_same, arith, sym, get_or_read}, StretchLemmas.key_of-between, SkipLemmas.stretch_is}
use Rattle.merged_runs.proofs.TournamentLemmas.{IsPlayedAround-run, IsPlayedAround-child, IsPlayedAround-more, IsWinner-max}
use Rattle.merged_runs.proofs.merged.MergedRuns.give.Goals as goal

pub invariant_of-stretch : goal.invariant_of-stretch
invariant_of-stretch c =
    let s = c.args.self.now in
    let run = c.args.run in
    let from = get_or_read s.starts.items run c.index-from.result.now (omega (arith, c.requires.run, c.requires.merge.stretches.size)) c.index-from.ensures 0 in
    let to = get_or_read s.remaining.items run c.index.result.now c.requires.run c.index.ensures 0 in
    let is = stretch_is c.args.network.now s.starts.items s.remaining.items c.requires.merge.stretches run c.requires.run c.index-from.result.now (c.index.result.now - 1) from (omega (arith, to)) in
    record { ordered = omega (arith, from, to, c.requires.some); within = is.0; rising = is.1 }

pub loop-node-init : goal.loop-node-init
loop-node-init c =
    let s = c.args.self.now in
    let n = c.args.network.now in
    let run = c.args.run in
    let merge = c.requires.merge in
    let to = c.index.result.now - 1 in
    let all : c.len.result ≡ length s.remaining.items = omega (arith, c.len.ensures, s.remaining.ok.0) in
    let from = get_or_read s.starts.items run c.index-from.result.now (omega (arith, c.requires.run, merge.stretches.size)) c.index-from.ensures 0 in
    let end = get_or_read s.remaining.items run c.index.result.now c.requires.run c.index.ensures 0 in
    let key = key_of-between n s.starts.items (set s.remaining.items run to) run c.index-from.result.now to c.key.result from
    (sym (get_or-set_same s.remaining.items run to 0 c.requires.run)) c.key.ensures in
    grind (arith, all, end, IsPlayedAround-run n s.starts.items s.remaining.items s.keys.items run to c.key.result merge.tournament c.requires.run key)

pub loop-node-preserved : goal.loop-node-preserved
loop-node-preserved c =
    let inv = c.loop-node.invariant in
    let keys = c.loop-node.self.keys.items in
    let up = c.loop-node.node / 2 in
    let few : 2 * up + 1 < length keys = omega (arith, inv.played.few, inv.played.size) in
    let first = get_or_read keys (2 * up) c.index-in-loop-node.result.now (omega (arith, few)) c.index-in-loop-node.ensures 0 in
    let second = get_or_read keys (2 * up + 1) c.index-in-loop-node-2.result.now few c.index-in-loop-node-2.ensures 0 in
    let won = IsWinner-max _ _ _ up (get_or keys (2 * up) 0) (get_or keys (2 * up + 1) 0) c.max.result (omega (arith, c.loop-node-test.true)) (omega (arith, inv.played.few))
    (IsPlayedAround-child _ _ _ c.args.run c.loop-node.node keys inv.played (2 * up) (omega arith) c.loop-node-test.true (omega (arith, inv.played.few)))
    (IsPlayedAround-child _ _ _ c.args.run c.loop-node.node keys inv.played (2 * up + 1) (omega arith) c.loop-node-test.true (omega (arith, inv.played.few)))
    (rw (first, second) at c.max.ensures) in
    let played = IsPlayedAround-more _ _ _ c.args.run c.loop-node.node keys inv.played c.max.result c.loop-node-test.true won in
    grind (arith, inv.starts, inv.remaining, played)

use Rattle.merged_runs.proofs.{Common.arith, StretchLemmas.{IsWhole, IsWhole-copied, AreStretches-whole, rest_of-all}, merged.MergedRuns.new.Goals.In_ok-remaining}
use Rattle.merged_runs.proofs.merged.MergedRuns.new.Goals as goal

whole : (c : In_ok-remaining) → IsWhole c.in_ok-starts.starts.items c.in_ok-remaining.remaining.items
whole c = grind (arith, IsWhole-copied)

pub play_all-requires : goal.play_all-requires
play_all-requires c =
    AreStretches-whole c.args.network.now c.in_ok-starts.starts.items c.in_ok-remaining.remaining.items c.in_ok-starts.ensures (whole (goal.at.play_all-requires c).In_ok-remaining)

pub returns-clause-fits : goal.returns-clause-fits
returns-clause-fits c =
    let s = AreStretches-whole c.args.network.now c.in_ok-starts.starts.items c.in_ok-remaining.remaining.items c.in_ok-starts.ensures (whole (goal.at.returns-clause-fits c).In_ok-remaining) in
    record { stretches = rw (c.play_all.ensures.starts, c.play_all.ensures.remaining) s; tournament = c.play_all.ensures.tournament }

pub returns-clause-rest : goal.returns-clause-rest
returns-clause-rest c =
    let w = whole (goal.at.returns-clause-rest c).In_ok-remaining in
    let s = AreStretches-whole c.args.network.now c.in_ok-starts.starts.items c.in_ok-remaining.remaining.items c.in_ok-starts.ensures w in
    rw c.play_all.ensures.remaining (rest_of-all c.args.network.now s.begin.valid c.in_ok-starts.starts.items c.in_ok-remaining.remaining.items s w.each)

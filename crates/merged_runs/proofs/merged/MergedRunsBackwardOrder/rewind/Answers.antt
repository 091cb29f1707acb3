use Rattle.merged_runs.proofs.{Common.arith, StretchLemmas.{IsWhole, IsWhole-copied, AreStretches-whole, rest_of-all}, merged.MergedRunsBackwardOrder.rewind.Goals.After-copy_from_slice}
use Rattle.merged_runs.proofs.merged.MergedRunsBackwardOrder.rewind.Goals as goal

whole : (c : After-copy_from_slice) → IsWhole c.args.self.now.starts.items c.copy_from_slice.new.self.items
whole c = grind (arith, IsWhole-copied)

pub returns-clause-rest : goal.returns-clause-rest
returns-clause-rest c =
    let w = whole (goal.at.returns-clause-rest c).After-copy_from_slice in
    let s = AreStretches-whole c.args.network.now c.args.self.now.starts.items c.copy_from_slice.new.self.items c.requires.stretches.begin w in
    rw c.play_all.ensures.remaining (rest_of-all c.args.network.now s.begin.valid c.args.self.now.starts.items c.copy_from_slice.new.self.items s w.each)

use Rattle.merged_runs.proofs.{Common.{◌≡◌, ◌<◌, length, get_or, arith, ap, ◌∙◌, get_or_read}, SkipLemmas.{stretch_is, rest_of-lowered}}
use Rattle.merged_runs.proofs.merged.MergedRunsBackwardOrder.skip_after.Goals as goal

pub invariant_of-stretch : goal.invariant_of-stretch
invariant_of-stretch c =
    let s = c.args.self.now in
    let inv = c.loop-run.invariant in
    let run = c.loop-run.run in
    let within : run < length s.remaining.items = omega (arith, c.len-run-end.ensures, s.remaining.ok.0, c.loop-run-test.true) in
    let from : c.index.result.now ≡ get_or s.starts.items run 0 =
    get_or_read c.loop-run.self.starts.items run c.index.result.now
    (omega (arith, within, c.requires.stretches.size, ap length inv.starts)) c.index.ensures 0 ∙ ap (λ xs. get_or xs run 0) inv.starts in
    let to : c.index-in-loop-run.result.now ≡ get_or s.remaining.items run 0 =
    get_or_read c.loop-run.self.remaining.items run c.index-in-loop-run.result.now
    (omega (arith, within, inv.lowered.size)) c.index-in-loop-run.ensures 0 ∙ inv.lowered.same run (omega arith) in
    let is = stretch_is c.args.network.now s.starts.items s.remaining.items c.requires.stretches run within c.index.result.now c.index-in-loop-run.result.now from (omega (arith, to)) in
    record { ordered = omega (arith, from, to, (c.requires.stretches.within run within).0); within = is.0; rising = is.1 }

pub returns-clause-up_to : goal.returns-clause-up_to
returns-clause-up_to c = grind (arith, rest_of-lowered)

use Rattle.text_index.proofs.Common.{ap, [], take-adds, got, key_adds, key_texts, arith}
use Rattle.text_index.proofs.index.TextIndex.of.Goals as goal

pub loop-i-init : goal.loop-i-init
loop-i-init c = ap key_texts c.with_hasher-numbers.ensures.empty

pub loop-i-preserved : goal.loop-i-preserved
loop-i-preserved c =
    let w = got c.args.texts.now c.loop-i.i c.get.result.now [] c.get.ensures.text in
    let adds = key_adds c.loop-i.numbers.keys c.insert.new.self.keys c.get.result c.in_ok-insert.ensures.keys in
    grind (arith, take-adds)

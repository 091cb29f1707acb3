use Rattle.command_line.proofs.Common.{rules, tests, lit<, YieldsList-at, YieldsList-from_str_split, delay_in}
use Rattle.std.proofs.lemmas.Iterator.{items_from_collect, YieldsList-from_map}
use Rattle.command_line.proofs.values.delays_of.Goals as goal

pub returns : goal.returns
returns c =
    items_from_collect _ c.collect.ensures.ran
    (YieldsList-from_map _ delay_in
    (YieldsList-at c.map.ensures.source (YieldsList-from_str_split 44 c.args.text.now (lit< tt) c.split.ensures.text c.split.ensures.has_more c.split.ensures.pattern))
    c.map.ensures.closure (λ x r q k. search (rules, tests)))

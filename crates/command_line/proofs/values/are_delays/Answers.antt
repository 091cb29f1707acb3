use Rattle.command_line.proofs.Common.{◌≡◌, ℕ, ◌≤◌, ◌<◌, length, List, Bool, true, false, arith, rules, tests, lit<, nat_le, list_all, count_from_yields_List, YieldsList-from_str_split, is_delay}
use Rattle.command_line.proofs.Common.{are_delays, pieces}
use Rattle.std.proofs.lemmas.{Bool.Decides.nat_tests, Iterator.Search.all_from_yields_List}
use Rattle.command_line.proofs.values.are_delays.Goals as goal

few : (texts : List (List ℕ)) (n : ℕ) (b : Bool) → n ≡ length texts → n ≤ 4096 → b ≡ list_all is_delay texts → b ≡ are_delays texts
few texts n b count le all = grind (arith, nat_le, nat_tests)

many : (texts : List (List ℕ)) (n : ℕ) → n ≡ length texts → 4096 < n → nat_le n 4096 ≡ are_delays texts
many texts n count more = grind (arith, nat_le, nat_tests)

pub returns-then-count-le-MOST_DELAYS : goal.returns-then-count-le-MOST_DELAYS
returns-then-count-le-MOST_DELAYS c =
    few (pieces c.args.text.now) c.count.result c.all.result
    (count_from_yields_List _ _ c.count.ensures.ran (YieldsList-from_str_split 44 c.args.text.now (lit< tt) c.split.ensures.text c.split.ensures.has_more c.split.ensures.pattern))
    c.if-count-le-MOST_DELAYS.true
    (all_from_yields_List is_delay _ _ _ c.all.ensures.ran
    (YieldsList-from_str_split 44 c.args.text.now
    (lit< tt) c.split-then-count-le-MOST_DELAYS.ensures.text c.split-then-count-le-MOST_DELAYS.ensures.has_more
    c.split-then-count-le-MOST_DELAYS.ensures.pattern) (λ x b q k. search (rules, tests)))

pub returns-else-count-le-MOST_DELAYS : goal.returns-else-count-le-MOST_DELAYS
returns-else-count-le-MOST_DELAYS c =
    many (pieces c.args.text.now) c.count.result
    (count_from_yields_List _ _ c.count.ensures.ran (YieldsList-from_str_split 44 c.args.text.now (lit< tt) c.split.ensures.text c.split.ensures.has_more c.split.ensures.pattern))
    c.if-count-le-MOST_DELAYS.false

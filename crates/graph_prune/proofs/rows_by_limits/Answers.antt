use Rattle.std.proofs.lemmas.{Grind.common_steps, List.{drop_more, drop_all}}
use Rattle.graph_prune.proofs.Common.{◌≡◌, ℕ, ◌<◌, ◌+◌, List, Option, length, get_or, ◌++◌, drop, append-nil, NetworkModel, limit_of, GraphRow, by_limits, with_limit, arith}
use Rattle.graph_prune.proofs.rows_by_limits.Goals as goal

-- one row more
more : (n : NetworkModel) (place : ℕ) (rows : List GraphRow) (i : ℕ) (none : GraphRow) (old now : List GraphRow) (limit last next : Option ℕ) → i < length rows
    → limit ≡ limit_of n place (get_or rows i none).leg
    → now ++ by_limits n place (drop (i + 1) rows) next ≡ old ++ with_limit limit (get_or rows i none).leg (by_limits n place (drop (i + 1) rows)) last
    → now ++ by_limits n place (drop (i + 1) rows) next ≡ old ++ by_limits n place (drop i rows) last
more n place rows i none old now limit last next less is step = grind (arith, drop_more)

pub loop-row-preserved : goal.loop-row-preserved
loop-row-preserved c = grind (arith, common_steps)

pub returns : goal.returns
returns c = grind (arith, drop_all, append-nil)

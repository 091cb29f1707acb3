use Rattle.std.proofs.lemmas.Grind.{common_steps}
use Rattle.lower_proof.proofs.{Common.{arith, length-take, take_at, cases_lt, get_or_read}, Leasts.none_below, Minima.{before_is, front_in_time, board_shown}}
use Rattle.lower_proof.proofs.board.Board.look.Goals.{then-wanted-eq0, else-wanted-eq0}
use Rattle.lower_proof.proofs.board.Board.look.Goals as goal

pub returns-clause-least : goal.returns-clause-least
returns-clause-least c = grind (arith, then-wanted-eq0, none_below, else-wanted-eq0, take_at, get_or_read, before_is, front_in_time)

pub returns-clause-board : goal.returns-clause-board
returns-clause-board c = grind (arith, common_steps, take_at, board_shown)

pub returns-clause-late : goal.returns-clause-late
returns-clause-late c = grind (arith, length-take, cases_lt)

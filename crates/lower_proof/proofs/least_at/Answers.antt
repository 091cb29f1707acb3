use Rattle.lower_proof.proofs.{Common.{◌≢◌, rules, get_or_default, arith}, Entries.no_board, Written.{board_least, boards_looked}}
use Rattle.lower_proof.proofs.least_at.Goals as goal

pub returns-clause-least : goal.returns-clause-least
returns-clause-least c n last are =
    let p = c.args.place.0 in
    let away : p ≢ c.args.query.now.target.0 = search rules in
    let same = rw (get_or_default c.args.boards.now p c.index-boards-place.result no_board c.requires.place) at c.look.ensures.entries in
    grind (arith, board_least)

pub returns-clause-boards : goal.returns-clause-boards
returns-clause-boards c n last are =
    let same = rw (get_or_default c.args.boards.now c.args.place.0 c.index-boards-place.result no_board c.requires.place) at c.look.ensures.entries in
    boards_looked n last c.args.values.now c.args.boards.now c.args.place.0 c.look.new.self c.requires.place are same c.look.ensures.board

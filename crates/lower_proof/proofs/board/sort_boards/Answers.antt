use Rattle.lower_proof.proofs.{Common.{◌≡◌, ◌<◌, ◌∙◌, length, arith, subst, IsPermutation, length-set, get_or_default, ShownBoard}, Entries.{no_board, AreSorted, sorted_more, sorted_fresh}}
use Rattle.lower_proof.proofs.board.sort_boards.Goals as goal

pub loop-p-preserved : goal.loop-p-preserved
loop-p-preserved c =
    let boards = c.loop-p.boards in
    let p = c.loop-p.p in
    let inside : p < length boards = omega (arith, c.loop-p.invariant.len) in
    let moved = subst (λ (b : ShownBoard). IsPermutation b.entries c.sort.new.self.entries) (get_or_default boards p c.index-boards-p.result no_board inside) c.sort.ensures.permutation in
    record {
      len = length-set boards p c.sort.new.self ∙ c.loop-p.invariant.len;
      sorted = λ n last many have. sorted_more n last p boards c.sort.new.self inside moved c.sort.ensures.falls c.sort.ensures.least (c.loop-p.invariant.sorted n last many have);
    }

pub returns-clause-fresh : goal.returns-clause-fresh
returns-clause-fresh c = λ n last many have.
    let boards = c.loop-p.boards in
    let whole : c.loop-p.p ≡ length boards = omega (arith, c.loop-p.invariant.len) in
    sorted_fresh n last boards (subst (λ k. AreSorted n last k boards) whole (c.loop-p.invariant.sorted n last many have))

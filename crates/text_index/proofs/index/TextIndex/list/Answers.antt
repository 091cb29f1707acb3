use Rattle.text_index.proofs.{Common.{[], List, ℕ, Contains, length-take, arith, sym, subst, take, take_more, got}, KeyLemmas.new_after_those_before}
use Rattle.text_index.proofs.index.TextIndex.list.Goals as goal

pub push-requires-clause-room : goal.push-requires-clause-room
push-requires-clause-room c = grind (arith, length-take, c.loop-i.invariant, c.len-i-end.ensures.names.few)

pub push-requires-clause-absent : goal.push-requires-clause-absent
push-requires-clause-absent c =
    let w = got c.args.self.now c.loop-i.i c.get.result.now [] c.get.ensures in
    subst (λ (xs : List (List ℕ)). ¬ Contains xs c.get.result.now) (sym c.loop-i.invariant)
    (subst (λ (x : List ℕ). ¬ Contains (take c.loop-i.i c.args.self.now) x) w.1
    (new_after_those_before c.args.self.now c.loop-i.i c.len-i-end.ensures.names.distinct w.0))

pub loop-i-preserved : goal.loop-i-preserved
loop-i-preserved c =
    let w = got c.args.self.now c.loop-i.i c.get.result.now [] c.get.ensures in
    grind (arith, take_more)

use Rattle.plan_model.proofs.{Common.{arith, refl}, TextLists.{there_by_number, absent_by_number}}
use Rattle.plan_model.proofs.text_list.TextList.add.Goals as goal

pub returns-then-is_some-clause-added : goal.returns-then-is_some-clause-added
returns-then-is_some-clause-added c =
    (refl, there_by_number c.args.self.now c.args.text.now c.number.result c.if-is_some.ensures c.number.ensures.found)

pub push-requires-clause-absent : goal.push-requires-clause-absent
push-requires-clause-absent c = absent_by_number c.args.self.now c.args.text.now c.number.result c.if-is_some.ensures c.number.ensures.none

pub returns-clause-added : goal.returns-clause-added
returns-clause-added c = grind (arith, absent_by_number)

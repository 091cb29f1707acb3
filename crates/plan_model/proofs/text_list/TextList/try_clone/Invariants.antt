use Rattle.plan_model.proofs.Common.{◌≡◌, take, texts}
use Rattle.plan_model.proofs.text_list.TextList.try_clone.Given as goal

abbrev pub invariant-loop-text : goal.invariant-loop-text
invariant-loop-text l = texts l.strings.items ≡ take l.text-index l.self

use Rattle.plan_model.proofs.{Common.{arith, cases_lt, length-map}, Texts.texts-at}
use Rattle.std.proofs.lemmas.Slice.Eq.{bytes_eq-Decides}
use Rattle.plan_model.proofs.text_list.place_among.Goals as goal

pub returns-then-eq-clause-found : goal.returns-then-eq-clause-found
returns-then-eq-clause-found c = grind (arith, texts-at, bytes_eq-Decides, length-map)

pub loop-i-preserved : goal.loop-i-preserved
loop-i-preserved c = λ k within same. grind (arith, texts-at, bytes_eq-Decides, cases_lt)

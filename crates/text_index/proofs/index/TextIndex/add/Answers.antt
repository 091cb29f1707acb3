use Rattle.text_index.proofs.{Common.{◌-◌, ℕ, List, Some, sym, subst, Adds, IsNameList-adds, number_is, key_adds, key_texts, arith}, KeyLemmas.text_of_stored}
use Rattle.text_index.proofs.index.TextIndex.add.Goals as goal

pub invariant_of-self-2 : goal.invariant_of-self-2
invariant_of-self-2 c =
    let old = c.self.inside.numbers.keys in
    let new = c.insert_full.new.self.keys in
    let added = key_adds old new c.args.text c.in_ok-number.ensures.keys in
    grind (arith, IsNameList-adds)

pub returns-clause-added : goal.returns-clause-added
returns-clause-added c =
    let new = c.insert_full.new.self.keys in
    let added = key_adds c.self.inside.numbers.keys new c.args.text c.in_ok-number.ensures.keys in
    (added.0, subst (λ (w : List (List ℕ)). Adds w (key_texts new) c.args.text.now added.0) c.self.view_is added.1)

pub returns-clause-found : goal.returns-clause-found
returns-clause-found c = grind (arith, text_of_stored)

pub returns-clause-number : goal.returns-clause-number
returns-clause-number c =
    sym (number_is (Some c.in_ok-number.number) c.args.text.now (key_texts c.insert_full.new.self.keys) (invariant_of-self-2 c).distinct (returns-clause-found c) tt)

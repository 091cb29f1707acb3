use Rattle.plan_model.proofs.{Common.{arith, ◌-◌, ◌^◌, ◌<◌, List, ℕ, Contains, length, sym, subst, texts}, TextLists.{AreTexts-push, texts_more}}
use Rattle.plan_model.proofs.text_list.TextList.push.Goals as goal

pub invariant_of-self-2 : goal.invariant_of-self-2
invariant_of-self-2 c =
    let old = c.self.inside.strings.items in
    let text = c.args.text.now in
    let room : length (texts old) < 2 ^ 32 - 1 = subst (λ (w : List (List ℕ)). length w < 2 ^ 32 - 1) (sym c.self.view_is) c.requires.room in
    let absent : ¬ Contains (texts old) text = λ there. c.requires.absent (subst (λ (w : List (List ℕ)). Contains w text) c.self.view_is there) in
    AreTexts-push old c.push.new.self.items c.in_ok-text.text text c.in_ok-text.ensures.ok c.in_ok-push.ensures.items c.self.invariant room absent

pub returns-clause-ok : goal.returns-clause-ok
returns-clause-ok c = grind (arith, texts_more)

pub returns-clause-texts : goal.returns-clause-texts
returns-clause-texts c = invariant_of-self-2 c

use Rattle.csv_rows.proofs.Common.{◌≡◌, ◌++◌, ◌∷◌, [], ℕ, List, Result, Ok, Err, All-push, IsTrimmed, subst, sym, arith, common_steps}
use Rattle.csv_rows.specs.Ids.{AreIds}
use Rattle.std.specs.Prelude.{OnOk, OnErr}
use Rattle.plan_model.specs.NameLists.{AreTexts}
use Rattle.csv_rows.proofs.ids.Ids.push.Goals as goal

-- ids after a push, whether it fails or not
pushed : {T E : Type 0} (old new : List (List ℕ)) (id : List ℕ) (r : Result T E) → AreIds old → IsTrimmed id → OnOk r (new ≡ old ++ id ∷ []) → OnErr r (new ≡ old) → OnOk r (AreTexts new)
    → AreIds new
pushed old new id (Ok done) ids trimmed ok err texts = grind (arith, common_steps, All-push)
pushed old new id (Err fault) ids trimmed ok err texts = subst AreIds (sym err) ids

pub invariant_of-self : goal.invariant_of-self
invariant_of-self c = pushed _ _ _ c.push.result c.self.invariant c.requires.trimmed c.push.ensures.ok c.push.ensures.err c.push.ensures.texts

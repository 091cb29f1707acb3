-- The latest arrival keeps the laws. (The proof is here because the trait names it.)
use Rattle.std.proofs.Common.{arith, inl, inr}
use Rattle.std.specs.Prelude.{◌≤◌, ◌⊎◌, List, [], ◌∷◌, refl}
use Rattle.plan_model.specs.{declared.model.Outcome.Outcome, Tree.{Tree, Kids, Nil, Kid, worst_of}, DelayRows.EachKid}
use Rattle.value_laws.specs.{declared.WorstMoment.WorstMoment, ScoreLaws.ScoreLaws, Worsts.{worst_scoring, latest}}

blended_below : (row : List Outcome) (values : List WorstMoment) (kids : Kids) → EachKid worst_scoring.below row values kids → latest values ≤ worst_of kids
blended_below [] [] Nil each = omega arith
blended_below (o ∷ row) (v ∷ values) (Kid w t kids) each = omega (arith, blended_below row values kids each.2)
blended_below _ _ _ each = absurd each

blended_covers : (row : List Outcome) (values : List WorstMoment) (kids : Kids) → EachKid worst_scoring.covers row values kids → worst_of kids ≤ latest values
blended_covers [] [] Nil each = omega arith
blended_covers (o ∷ row) (v ∷ values) (Kid w t kids) each = omega (arith, blended_covers row values kids each.2)
blended_covers _ _ _ each = absurd each

lowered_below : (a b : WorstMoment) (tree : Tree) → worst_scoring.rank a ≤ worst_scoring.rank b → worst_scoring.below a tree ⊎ worst_scoring.below b tree → worst_scoring.below a tree
lowered_below a b tree better (inl own) = own
lowered_below a b tree better (inr other) = omega arith

pub worst_laws : ScoreLaws worst_scoring
worst_laws = record {
  arrived_below = λ moment. omega arith;
  arrived_covers = λ moment. omega arith;
  arrived_gap = λ moment. refl;
  blended_below = λ row values kids enter exit good each. blended_below row values kids each;
  blended_covers = λ row values kids enter exit good each. blended_covers row values kids each;
  blended_gap = λ row values most good same gaps. omega arith;
  lowered_below = lowered_below;
  lowered_covers = λ a b tree better covers. covers;
  lowered_rank = λ a b. refl;
  lowered_gap = λ a b better. omega arith;
}

use Rattle.trip_frequencies.proofs.{Common.{arith, List, sym, subst, IsNonDecreasing, IsNonDecreasingBy, TripFrequency}, RepeatLemmas.{ordered-parted, all_repeats-parted}}
use Rattle.std.proofs.lemmas.Result.{IfOk-weaker}
use Rattle.trip_frequencies.proofs.repeats.repeats_by.Goals as goal

pub returns-clause-ordered : goal.returns-clause-ordered
returns-clause-ordered c =
    let ordered = subst (λ (xs : List TripFrequency). IsNonDecreasingBy (λ (r : TripFrequency). r.trip) xs) (sym c.as_slice.ensures.value) c.in_ok-sorted.ensures.ordered in
    IfOk-weaker c.parted.result _ _ (λ r trips. subst IsNonDecreasing (sym trips) (ordered-parted c.as_slice.result.now ordered)) c.parted.ensures.trips

pub returns-clause-repeats : goal.returns-clause-repeats
returns-clause-repeats c = grind (arith, all_repeats-parted)

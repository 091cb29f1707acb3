use Rattle.trip_frequencies.proofs.{Common.{rules, answers_always, IsNonDecreasingBy-from_sort_by_key, TripFrequency, arith}, RepeatLemmas.repeats_of-stable}
use Rattle.trip_frequencies.proofs.repeats.by_trip.Goals as goal

pub returns-clause-ordered : goal.returns-clause-ordered
returns-clause-ordered c = IsNonDecreasingBy-from_sort_by_key (λ (r : TripFrequency). r.trip) _ c.in_ok-sort_by_key.ensures.sorted (λ a r q k. search rules)

pub returns-clause-kept : goal.returns-clause-kept
returns-clause-kept c = grind (arith, repeats_of-stable, answers_always)

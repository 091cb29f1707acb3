use Rattle.stop_times.proofs.{Common.{◌≡◌, refl, if◌then◌else◌, [], List, ℕ, Bool, true, false, records_after, arith}, RecordLemmas.{took_first-read, took-none}}
use Rattle.stop_times.proofs.records.Records.next.Goals.{in-Ok-true, in-Ok-false, in-Err}
use Rattle.stop_times.proofs.records.Records.next.Goals as goal

remaining : (done : Bool) (rows : List (List (List ℕ))) → done ≡ false → (if done then [] else rows) ≡ rows
remaining true rows off = absurd (cc)
remaining false rows off = refl

pub invariant_of-self : goal.invariant_of-self
invariant_of-self c = λ off. grind (arith, took_first-read)

pub returns-clause-some : goal.returns-clause-some
returns-clause-some c = grind (arith, in-Ok-true, took_first-read, remaining, records_after, in-Ok-false, in-Err)

pub returns-clause-none : goal.returns-clause-none
returns-clause-none c = grind (arith, in-Ok-true, in-Ok-false, remaining, records_after, took-none, in-Err)

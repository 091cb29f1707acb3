use Rattle.std.specs.Prelude.{refl}
use Rattle.journey_answers.proofs.answers.asked_of.Goals as goal

pub returns : goal.returns
returns c = record {
  problem = refl;
  asked = record { source = refl; target = refl; start_is = refl; least = rw c.in-Some.is at c.in_ok-found.ensures.least; deadline = c.deadline.ensures.value };
  fits = c.reserved_worst.ensures.fits;
  fault = tt;
}

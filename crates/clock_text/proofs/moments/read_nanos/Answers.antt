use Rattle.clock_text.proofs.{Common.arith, NanosLemmas.{no_fraction, no_moment_reported, moment_reported}}
use Rattle.clock_text.proofs.moments.read_nanos.Goals as goal

pub returns-in_err-fraction : goal.returns-in_err-fraction
returns-in_err-fraction c = rw c.from_residual.ensures (no_fraction c.args.text.now c.in_err-fraction.ensures.value)

pub returns-in_err-moment : goal.returns-in_err-moment
returns-in_err-moment c = grind (arith, no_moment_reported)

pub returns : goal.returns
returns c = grind (arith, moment_reported)

-- The chance of being late as a score, a span in units of 10 to the -18, and as text.
use Rattle.std.specs.Prelude.{ℕ, refl, ◌/◌, List, ◌∷◌, ◌++◌}
use Rattle.plan_model.specs.{Bounds.certainty, Expected.late}
use Rattle.interval_fixed.specs.Interval.{Interval}
use Rattle.late_chance.specs.declared.shift.TheConstants.{SECONDS_PER_WEEK}
use Rattle.value_laws.specs.{ScoreLaws.{Scoring, ScoreLaws}, Spans.span_scoring, SpanLaws.span_laws}
use Rattle.clock_text.specs.Digits.{digits}

-- the moment that represents the promised one: a week after the first of all time
abbrev pub promised : ℕ
promised = SECONDS_PER_WEEK

-- a span as clauses see a chance
abbrev pub itself : Interval → Interval
itself s = s

-- lo is at most the chance, and hi at least
abbrev pub chance_scoring : Scoring Interval
chance_scoring = span_scoring certainty (late promised) itself itself

pub chance_laws : ScoreLaws chance_scoring
chance_laws = span_laws certainty (late promised) itself itself (λ s. refl)

-- a chance in units of 10 to the -18: a digit, a point and 18 digits
abbrev pub chance_text : ℕ → List ℕ
chance_text chance = digits 1 (chance / certainty) ++ 46 ∷ digits 18 chance

use Rattle.clock_text.proofs.{Common.{w32, ◌∙◌, to_z-of_z}, OneDate.{in_range, year_of}}
use Rattle.clock_text.proofs.dates.date_of.Goals as goal

pub date_from-requires : goal.date_from-requires
date_from-requires c = rw (to_z-of_z w32 c.args.day c.ranges.day) (in_range c.args.day c.requires)

pub returns-clause-year : goal.returns-clause-year
returns-clause-year c = year_of c.date_from.result c.args.day (c.date_from.ensures ∙ to_z-of_z w32 c.args.day c.ranges.day) c.requires

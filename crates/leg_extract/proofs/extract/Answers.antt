use Rattle.std.proofs.Common.{◌∙◌, sym}
use Rattle.leg_extract.proofs.Graphs.{safe_start, extracted}
use Rattle.leg_extract.proofs.extract.Goals as goal

pub walk-requires-clause-safe : goal.walk-requires-clause-safe
walk-requires-clause-safe g c = (
  c.args.query.now.deadline.0,
  safe_start c.args.network.now c.args.query.now c.args.scanned.now c.requires.answers
      (c.in-Some.field-0-0, c.in-Some.start) (sym c.start.ensures ∙ c.in-Some.is),
)

pub returns-in_ok-rides-in-Some : goal.returns-in_ok-rides-in-Some
returns-in_ok-rides-in-Some g c =
    let is = sym c.start.ensures ∙ c.in-Some.is in (
      (c.in-Some.field-0-0, c.in-Some.start),
      is,
      extracted c.args.network.now c.args.query.now c.args.scanned.now c.requires.answers
          c.in_ok-rides-in-Some.ensures.valid c.requires.differ (c.in-Some.field-0-0, c.in-Some.start) is c.in_ok-rides-in-Some.rides c.in_ok-rides-in-Some.ensures.walked,
    )

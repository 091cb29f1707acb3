use Rattle.journey_answers.proofs.{Common.arith, Departing.{latest_at_once, same_greatest}}
use Rattle.journey_answers.proofs.departures.latest_of.Goals as goal

pub returns-then-query : goal.returns-then-query
returns-then-query c = latest_at_once c.args.asked.now.problem.now c.args.asked.now.query c.if-query.true c.args.asked.now.until.order

pub returns : goal.returns
returns c = grind (arith, same_greatest)

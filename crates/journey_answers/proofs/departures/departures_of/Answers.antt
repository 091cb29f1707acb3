use Rattle.journey_answers.proofs.{Common.{sym, ◌∙◌, arith}, Departing.{safe_at_once, departures_at_once, departures_away, none_leaves, some_leaves}}
use Rattle.journey_answers.proofs.departures.departures_of.Goals as goal

pub returns-then-asked : goal.returns-then-asked
returns-then-asked c = grind (arith, departures_at_once, safe_at_once)

pub returns-then-len-eq0 : goal.returns-then-len-eq0
returns-then-len-eq0 c =
    none_leaves c.args.up_to.now.asked.problem.now c.args.up_to.now.asked.query c.args.up_to.now.last.0 c.in_ok-rows.rows c.args.up_to.now.later.0 c.in_ok-rows.ensures.table (sym c.len.ensures ∙ c.if-len-eq0.true)

pub returns : goal.returns
returns c = (
  departures_away c.args.up_to.now.asked.problem.now c.args.up_to.now.asked.query c.args.up_to.now.last.0 c.in_ok-rows.rows c.if-asked.false c.in_ok-rows.ensures.table c.in_ok-rows.ensures.by_rules,
  some_leaves c.args.up_to.now.asked.problem.now c.args.up_to.now.asked.query c.args.up_to.now.last.0 c.in_ok-rows.rows c.args.up_to.now.later.0 c.in_ok-rows.ensures.table (λ none. c.if-len-eq0.false (c.len.ensures ∙ none)),
)

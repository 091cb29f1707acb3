use Rattle.journey_answers.proofs.{SameReach.same_reach, Ruled.by_gates}
use Rattle.journey_answers.proofs.reaching.reach_of.Goals as goal

pub returns : goal.returns
returns c =
    let m = c.args.asked.now.problem.now.timetable.network in
    let q = c.args.asked.now.query in
    let rows = c.in_ok-rows.rows in
    record {
      reach = same_reach m q c.places.result q.start.0 rows c.in_ok-rows.ensures.reach;
      by_rules = by_gates m q rows c.in_ok-extended.extended c.places.result c.in_ok-scanned.scanned c.in_ok-extended.ensures.parts c.places.ensures.count c.in_ok-scanned.ensures.ruled
          c.in_ok-rows.ensures.found c.in_ok-extended.ensures.room;
    }

use Rattle.std.proofs.lemmas.Result.{IfOk-weaker}
use Rattle.journey_answers.proofs.{Departing.same_table, Ruled.by_rules}
use Rattle.journey_answers.proofs.departures.rows_of.Goals as goal

pub returns-clause-table : goal.returns-clause-table
returns-clause-table c =
    let q = c.args.away.now.asked.query in
    let found = c.in_ok-found.found in
    let says = c.says_of_source.ensures found.network found.query c.args.away.now.asked.problem.now.timetable.network q.source.0 c.in_ok-found.ensures.extended in
    IfOk-weaker c.table.result _ _
    (λ rows is. same_table c.args.away.now.asked.problem.now q found.query c.in_ok-found.ensures.target c.in_ok-found.ensures.deadline q.start.0 c.args.last.0 rows
    (says.tables q.start.0 c.args.last.0 rows c.args.away.now.asked.until.first is)) c.table.ensures.table

pub returns-clause-by_rules : goal.returns-clause-by_rules
returns-clause-by_rules c =
    let found = c.in_ok-found.found in
    IfOk-weaker c.table.result _ _
    (λ rows looked. by_rules c.args.away.now.asked.problem.now c.args.away.now.asked.query c.args.last.0 rows found.network found.query found.scanned
    c.in_ok-found.ensures.network c.in_ok-found.ensures.query c.in_ok-found.ensures.ruled looked) c.table.ensures.looked

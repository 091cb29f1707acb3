use Rattle.csv_rows.specs.Tables.{table_of}
use Rattle.lower_proof.proofs.Deadlines.{reported_deadline}
use Rattle.meat_engine.proofs.asks.check_certificate_over.Goals as goal

pub invariant_of-read-clause-deadline : goal.invariant_of-read-clause-deadline
invariant_of-read-clause-deadline g c =
    let p = c.args.problem.now in
    reported_deadline p.timetable.network p.timetable.names p.source.0 p.target.0 c.args.start.moment.0 (table_of c.in_ok-query.ensures.certificate.text) c.in_ok-query.query c.in_ok-query.certificate.values c.in_ok-query.ensures.certificate.reports

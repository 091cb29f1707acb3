use Rattle.journey_answers.proofs.{Common.{Some, ap, arith, ◌≤◌}, GraphFiles.has_rows}
use Rattle.journey_report.specs.Findings.{Findings}
use Rattle.journey_answers.proofs.answers.planned_answer.Goals as goal

pub returns : goal.returns
returns c =
    let asked = c.args.asked.now in
    let graph = c.args.found.graph in
    let bounds = c.args.found.value in
    let in_time : asked.query.start.0 ≤ asked.query.deadline.0 = omega (arith, asked.printable.order, asked.printable.deadline) in (
      graph,
      bounds,
      ap (λ (f : Findings). record f { graph = Some graph; bounds = Some bounds }) c.report-report.ensures,
      c.requires,
      c.in_ok-text.ensures.text,
      has_rows asked.problem.now.timetable.network asked.problem.now.timetable.names (record { query = asked.query; bounds = bounds }) graph c.in_ok-text.text.items
          (c.in_ok-text.ensures.reads_back c.requires.tidy.fit in_time),
    )

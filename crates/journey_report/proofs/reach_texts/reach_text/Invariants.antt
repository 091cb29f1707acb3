use Rattle.journey_report.proofs.Common.{◌≡◌, ◌++◌, drop, froms_text, reach_text}
use Rattle.journey_report.proofs.reach_texts.reach_text.Given as goal

-- the text so far, and that of the rows that remain
abbrev pub invariant-loop-from : goal.invariant-loop-from
invariant-loop-from l =
    let names = l.named.timetable.now.names in
    l.text.items ++ froms_text names (drop l.from-index l.rows) ≡ reach_text names l.named.query l.rows

use Rattle.service_days.proofs.{Common.{refl, and_from, and_left, and_right, arith}, ReadLemmas.{calendar_first, dates_first, none_there, services_here, runs_by_some}}
use Rattle.service_days.proofs.services.Services.read.Goals.{else-missing-via-then-missing+else-dates, else-missing-via-else-missing}
use Rattle.service_days.specs.Calendars.{IsCalendarTable}
use Rattle.csv_rows.specs.declared.feed_tables.Table.TheVariants.{CalendarDates}
use Rattle.table_files.proofs.ReadingLemmas.{own-of, reads-raised, reads-value, reads-fault, reads-both, reads-after, reads-refused}
use Rattle.service_days.proofs.services.Services.read.Goals as goal

pub returns-in_err-missing-clause-reads : goal.returns-in_err-missing-clause-reads
returns-in_err-missing-clause-reads g c = grind (arith, reads-raised, reads-fault, own-of, calendar_first)

pub returns-in_err-dates-clause-reads : goal.returns-in_err-dates-clause-reads
returns-in_err-dates-clause-reads g c = reads-raised c.from_residual-in_err-dates.result c.from_residual-in_err-dates.ensures
    (let x = c.in_ok-missing.field-0 in
    reads-fault (own-of IsCalendarTable CalendarDates _ tt)
    (λ m own p. dates_first m c.args.folder.now c.args.limits.now _ x.missing x.calendar.ids x.calendar.periods.items p.0 own p.1)
    (reads-after c.in_ok-missing.ensures.reads c.in_err-dates.ensures.reads))

pub returns-then-dates-clause-reads : goal.returns-then-dates-clause-reads
returns-then-dates-clause-reads g c =
    let x = c.in_ok-missing.field-0 in
    let d = c.in_ok-dates.dates in
    reads-refused refl tt
    (λ m p. none_there m c.args.folder.now c.args.limits.now x.missing d.missing x.calendar.ids d.numbered.ids x.calendar.periods.items d.numbered.exceptions.keys
    p.0 p.1 (and_from x.missing d.missing c.if-missing.true c.if-dates.true))
    (reads-both c.in_ok-missing.ensures.reads c.in_ok-dates.ensures.reads)

pub returns-clause-reads : goal.returns-clause-reads
returns-clause-reads g c =
    let x = c.in_ok-missing.field-0 in
    let d = c.in_ok-dates.dates in
    reads-value
    (λ m p. services_here m c.args.folder.now c.args.limits.now x.missing d.missing x.calendar.ids d.numbered.ids x.calendar.periods.items d.numbered.exceptions.keys
    _ refl p.0 p.1
    (elim c.else-missing.branch [
      | else-missing-via-then-missing+else-dates w ↦ and_right x.missing d.missing w.if-dates.false
      | else-missing-via-else-missing w ↦ and_left x.missing d.missing w.if-missing.false
    ]))
    (reads-both c.in_ok-missing.ensures.reads c.in_ok-dates.ensures.reads)

pub returns-clause-sound : goal.returns-clause-sound
returns-clause-sound g c =
    let x = c.in_ok-missing.field-0 in
    let d = c.in_ok-dates.dates in
    runs_by_some x.missing d.missing x.calendar.ids d.numbered.ids x.calendar.periods.items d.numbered.exceptions.keys _ refl c.in_ok-missing.ensures.sound c.in_ok-dates.ensures.sound
    (elim c.else-missing.branch [
      | else-missing-via-then-missing+else-dates w ↦ and_right x.missing d.missing w.if-dates.false
      | else-missing-via-else-missing w ↦ and_left x.missing d.missing w.if-missing.false
    ])

use Rattle.service_days.proofs.Common.{◌∙◌, sym, [], ServiceId, Calendar, field, first-zero, list_below-zero, period_of}
use Rattle.csv_rows.specs.RowFaults.{repeated_id}
use Rattle.service_days.proofs.tables.no_calendar.Goals as goal

pub returns-clause-ids : goal.returns-clause-ids
returns-clause-ids c = c.with_key.ensures ∙ sym (list_below-zero (field [] ServiceId))

pub returns-clause-periods : goal.returns-clause-periods
returns-clause-periods c = c.new.ensures.items ∙ sym (list_below-zero (period_of []))

pub returns-clause-distinct : goal.returns-clause-distinct
returns-clause-distinct c = first-zero (repeated_id Calendar (field [] ServiceId))

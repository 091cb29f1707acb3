use Rattle.stop_times.proofs.table_rows.room_for.Goals as goal

pub returns : goal.returns
returns c = c.in_ok-timed.ensures.items

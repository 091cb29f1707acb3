use Rattle.feed_maker.proofs.Common.{◌≡◌, ◌+◌, ◌*◌, ◌≤◌, ◌++◌, vec_len, vec_capacity, joined, stop_time_row}
use Rattle.feed_maker.proofs.stop_times.add_run.Given as goal

-- the rows of the places so far, and the room that they took
abbrev pub invariant-loop-place : goal.invariant-loop-place
invariant-loop-place l = record {
  rows : l.text.items ≡ l.initial.text.items ++ joined (stop_time_row l.trip.line.number l.trip.run) l.place;
  longer : vec_len l.initial.text + l.place ≤ vec_len l.text;
  short : vec_len l.text ≤ vec_len l.initial.text + 100 * l.place;
  capacity : vec_capacity l.initial.text ≤ vec_capacity l.text;
}

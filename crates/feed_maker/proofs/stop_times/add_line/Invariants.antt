use Rattle.feed_maker.proofs.Common.{◌≡◌, ◌+◌, ◌*◌, ◌≤◌, ◌++◌, vec_len, vec_capacity, joined, run_rows}
use Rattle.feed_maker.proofs.stop_times.add_line.Given as goal

-- the rows of the runs so far, and the room that they took
abbrev pub invariant-loop-run : goal.invariant-loop-run
invariant-loop-run l = record {
  rows : l.text.items ≡ l.initial.text.items ++ joined (run_rows l.line.number) l.run;
  longer : vec_len l.initial.text + l.run ≤ vec_len l.text;
  short : vec_len l.text ≤ vec_len l.initial.text + 2100 * l.run;
  capacity : vec_capacity l.initial.text ≤ vec_capacity l.text;
}

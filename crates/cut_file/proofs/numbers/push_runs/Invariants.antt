use Rattle.cut_file.proofs.Common.{◌≡◌, take}
use Rattle.cut_file.proofs.numbers.push_runs.Given as goal

abbrev pub invariant-loop-number : goal.invariant-loop-number
invariant-loop-number l = record {
  done : l.names.runs ≡ take l.number l.runs;
  others : l.names.places ≡ l.initial.names.places;
}

use Rattle.cut_file.proofs.Common.{◌≡◌, take}
use Rattle.cut_file.proofs.numbers.push_places.Given as goal

abbrev pub invariant-loop-number : goal.invariant-loop-number
invariant-loop-number l = record {
  done : l.names.places ≡ take l.number l.places;
  others : l.names.runs ≡ l.initial.names.runs;
}

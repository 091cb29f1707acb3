use Rattle.cut_file.proofs.{Common.◌∙◌, NumberFacts.next_taken}
use Rattle.cut_file.proofs.numbers.push_places.Goals as goal

pub loop-number-preserved : goal.loop-number-preserved
loop-number-preserved c = record {
  done = next_taken c.args.places.now c.loop-number.names.places c.push_place.new.self.places c.loop-number.number c.get.result.now c.loop-number.invariant.done c.get.ensures c.in_ok-push_place.ensures.ok;
  others = c.push_place.ensures.runs ∙ c.loop-number.invariant.others;
}

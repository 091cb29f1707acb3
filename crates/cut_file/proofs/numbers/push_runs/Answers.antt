use Rattle.cut_file.proofs.{Common.◌∙◌, NumberFacts.next_taken}
use Rattle.cut_file.proofs.numbers.push_runs.Goals as goal

pub loop-number-preserved : goal.loop-number-preserved
loop-number-preserved c = record {
  done = next_taken c.args.runs.now c.loop-number.names.runs c.push_run.new.self.runs c.loop-number.number c.get.result.now c.loop-number.invariant.done c.get.ensures c.in_ok-push_run.ensures.ok;
  others = c.push_run.ensures.places ∙ c.loop-number.invariant.others;
}

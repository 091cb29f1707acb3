use Rattle.std.proofs.lemmas.Grind.{common_steps}
use Rattle.lower_proof.proofs.{Common.{◌++◌, ◌<◌, length, arith, text_of_records, value_records}, ReadBack.{values_step, values_done, fit_more}}
use Rattle.lower_proof.proofs.printer.Printer.put_values.Goals as goal

pub loop-i-preserved : goal.loop-i-preserved
loop-i-preserved c =
    let n = c.args.self.now.network.now in
    let values = c.args.self.now.values.now in
    let inside : c.loop-i.i < length values = omega (arith, c.args.self.now.as_many) in
    record {
      text = values_step n c.args.self.now.names.now values c.loop-i.i c.in_ok-text.text.items c.loop-i.text.items
          (c.args.text.items ++ text_of_records (value_records n c.args.self.now.names.now 0 values)) inside c.in_ok-text.ensures.text c.loop-i.invariant.text;
      fit = fit_more values c.loop-i.i c.loop-i.invariant.fit c.in_ok-text.ensures.fits;
    }

pub returns-clause-text : goal.returns-clause-text
returns-clause-text c = grind (arith, common_steps, values_done)

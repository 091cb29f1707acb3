use Rattle.graph_text.proofs.Common.{◌∙◌, ap, moment_text, Connection}
use Rattle.graph_text.proofs.printer.Printer.put_start.Goals as goal

pub returns : goal.returns
returns c =
    let second = c.as_slice.ensures ∙ c.write_moment-dep.ensures.text ∙ ap (λ (k : Connection). moment_text k.dep.0) c.get.ensures.connection in
    rw c.in-Some.is (rw second at c.put_leg.ensures)

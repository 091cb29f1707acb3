use Rattle.graph_score.proofs.{Common.{sym, ◌∙◌}, Failures.length_spans}
use Rattle.graph_score.proofs.outlooks.blend.Goals as goal

pub mean-requires-clause-as_many : goal.mean-requires-clause-as_many
mean-requires-clause-as_many c = c.requires.as_many ∙ sym (length_spans c.args.children.now (sym c.first_failure.ensures ∙ c.in-None.is))

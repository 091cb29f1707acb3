-- The text of a graph that reads back has the rows of a graph file.
use Rattle.journey_answers.proofs.Common.{List, ℕ, NetworkModel, PlanGraph}
use Rattle.plan_model.specs.NameLists.{NameLists}
use Rattle.graph_text.specs.{declared.Head.Head, GraphRows.IsTextOf, Reading.IsReadAs}
use Rattle.graph_text.proofs.Accepted.{text_reported}

pub has_rows : (n : NetworkModel) (names : NameLists) (head : Head) (graph : PlanGraph) (text : List ℕ) → IsReadAs n names head graph text → IsTextOf n names head graph text
has_rows n names head graph text read = (text_reported n names head.query.source.0 head.query.target.0 head.query.start.0 text head graph read).0

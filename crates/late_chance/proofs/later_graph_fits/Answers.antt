use Rattle.late_chance.proofs.LaterGraphs.{alike}
use Rattle.late_chance.proofs.later_graph_fits.Goals as goal

pub returns : goal.returns
returns c = λ n m shift first q graph shown tidy safe. alike n m shift first q shown graph tidy safe

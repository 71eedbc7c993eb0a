use Rattle.graph.proofs.Walks.{no_negative_closed_walk, negative_cycle_refutes}
use Rattle.graph.proofs.theorems.negative_cycle_refutes.Goals as goal

pub returns : goal.returns
returns g c = record { closed = no_negative_closed_walk g.M.Measure.group; cycle = negative_cycle_refutes g.M.Measure.group }

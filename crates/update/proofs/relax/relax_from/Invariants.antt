use Rattle.update.proofs.Turns.{Turn}
use Rattle.update.proofs.relax.relax_from.Given as goal

abbrev pub invariant-loop-z : goal.invariant-loop-z
invariant-loop-z g l = Turn g.G.Graph g.M.Measure l.graph l.initial.work l.up l.y l.work l.z

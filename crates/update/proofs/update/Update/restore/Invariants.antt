use Rattle.graph.specs.Weights.{weights}
use Rattle.table.specs.Climb.{up as parents_of}
use Rattle.update.proofs.Restores.{Restoring}
use Rattle.update.proofs.update.Update.restore.Given as goal

abbrev pub invariant-loop-m : goal.invariant-loop-m
invariant-loop-m g l = Restoring g.M.Measure l.self.table.n (weights g.G.Graph g.M.Measure l.self.graph) (parents_of l.old.rows) l.self.table.rows l.rows l.m

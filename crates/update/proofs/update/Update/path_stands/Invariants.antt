use Rattle.std.proofs.Common.{◌-◌, ◌<◌, length}
use Rattle.graph.specs.Tree.{climbed}
use Rattle.graph.specs.Weights.{weights}
use Rattle.table.specs.Climb.{up as parents_of}
use Rattle.update.specs.Reading.{depth}
use Rattle.update.specs.Restoring.{Stands}
use Rattle.update.proofs.update.Update.path_stands.Given as goal

abbrev pub invariant-loop-here : goal.invariant-loop-here
invariant-loop-here g l =
    (l.here < l.old.n)
    × (Stands g.M.Measure.group l.self.table.n (weights g.G.Graph g.M.Measure l.self.graph) (depth g.M.Measure l.self.table.rows) (parents_of l.old.rows) l.here
    → Stands g.M.Measure.group l.self.table.n (weights g.G.Graph g.M.Measure l.self.graph) (depth g.M.Measure l.self.table.rows) (parents_of l.old.rows) l.m)
    × (Stands g.M.Measure.group l.self.table.n (weights g.G.Graph g.M.Measure l.self.graph) (depth g.M.Measure l.self.table.rows) (parents_of l.old.rows) l.m
    → Stands g.M.Measure.group l.self.table.n (weights g.G.Graph g.M.Measure l.self.graph) (depth g.M.Measure l.self.table.rows) (parents_of l.old.rows) l.here)

abbrev pub decreases-loop-here : goal.decreases-loop-here
decreases-loop-here g l = length (climbed (parents_of l.old.rows) (l.old.n - 1) l.here)

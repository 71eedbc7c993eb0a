use Rattle.std.proofs.Common.{◌-◌, ◌<◌, length}
use Rattle.graph.specs.Tree.{climbed}
use Rattle.table.specs.Climb.{up as parents_of}
use Rattle.update.proofs.Starts.{Marked}
use Rattle.update.proofs.start.ancestors.Given as goal

abbrev pub invariant-loop-here : goal.invariant-loop-here
invariant-loop-here l = (l.here < l.old.n) × Marked (parents_of l.old.rows) l.m l.here l.up

abbrev pub decreases-loop-here : goal.decreases-loop-here
decreases-loop-here l = length (climbed (parents_of l.old.rows) (l.old.n - 1) l.here)

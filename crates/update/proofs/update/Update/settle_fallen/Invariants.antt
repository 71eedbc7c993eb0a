use Rattle.std.proofs.Common.{◌-◌}
use Rattle.update.specs.Reading.{flag}
use Rattle.update.specs.Lowering.{Room, settled}
use Rattle.update.proofs.Falling.{Grows}
use Rattle.update.proofs.update.Update.settle_fallen.Given as goal

abbrev pub invariant-loop-y : goal.invariant-loop-y
invariant-loop-y g l = Room g.M.Measure l.self.table.n l.work × Grows g.G.Graph g.M.Measure l.self l.up l.initial.work l.work

abbrev pub decreases-loop-y : goal.decreases-loop-y
decreases-loop-y g l = l.self.table.n - settled (flag l.work.done) l.self.table.n

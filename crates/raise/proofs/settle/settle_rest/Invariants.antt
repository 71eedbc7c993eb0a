use Rattle.std.proofs.Common.{◌-◌}
use Rattle.update.specs.Reading.{flag}
use Rattle.update.specs.Lowering.{Room, settled}
use Rattle.raise.proofs.Spreads.{Spreads}
use Rattle.raise.proofs.settle.settle_rest.Given as goal

abbrev pub invariant-loop-y : goal.invariant-loop-y
invariant-loop-y g l = Room g.M.Measure l.update.table.n l.work × Spreads g.G.Graph g.M.Measure l.update l.work

abbrev pub decreases-loop-y : goal.decreases-loop-y
decreases-loop-y g l = l.update.table.n - settled (flag l.work.done) l.update.table.n

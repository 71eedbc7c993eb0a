use Rattle.update.specs.Reading.{flag, depth}
use Rattle.update.specs.Nearest.{Best}
use Rattle.update.proofs.nearest.nearest.Given as goal

abbrev pub invariant-loop-z : goal.invariant-loop-z
invariant-loop-z g l = Best g.M.Measure.group (flag l.work.done) (depth g.M.Measure l.old.rows) (depth g.M.Measure l.work.rows) l.z l.best

use Rattle.std.proofs.Common.{arith}
use Rattle.measure.proofs.Within.{wider_to}
use Rattle.update.proofs.update.Update.nearest.Goals as goal

pub nearest-requires-clause-depths : goal.nearest-requires-clause-depths
nearest-requires-clause-depths g c z h = wider_to g.M.Measure.laws.wider 63 128 _ (omega arith) (c.self.invariant.depths z h)

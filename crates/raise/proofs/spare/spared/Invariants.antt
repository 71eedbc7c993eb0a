use Rattle.raise.proofs.Spares.{Parting}
use Rattle.raise.proofs.spare.spared.Given as goal

abbrev pub invariant-loop-z : goal.invariant-loop-z
invariant-loop-z g l = Parting g.G.Graph l.update.graph l.update.table.rows l.update.table.n l.b l.work l.z

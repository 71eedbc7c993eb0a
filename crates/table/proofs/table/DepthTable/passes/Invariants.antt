use Rattle.std.proofs.Common.{◌-◌, ◌<◌, length}
use Rattle.graph.specs.Tree.{climbed}
use Rattle.table.specs.Climb.{up}
use Rattle.table.proofs.Climbs.{Meets}
use Rattle.table.proofs.table.DepthTable.passes.Given as goal

abbrev pub invariant-loop-at : goal.invariant-loop-at
invariant-loop-at l =
    (l.at < l.self.n)
    × (Meets (up l.self.rows) l.at l.m → Meets (up l.self.rows) l.from l.m)
    × (Meets (up l.self.rows) l.from l.m → Meets (up l.self.rows) l.at l.m)

abbrev pub decreases-loop-at : goal.decreases-loop-at
decreases-loop-at l = length (climbed (up l.self.rows) (l.self.n - 1) l.at)

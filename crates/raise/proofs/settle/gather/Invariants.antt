use Rattle.std.proofs.Common.{◌≡◌, ℕ, ◌<◌, true}
use Rattle.table.specs.Climb.{deep}
use Rattle.update.specs.Reading.{flag, Deep}
use Rattle.raise.proofs.Spreads.{Gathers}
use Rattle.raise.proofs.settle.gather.Given as goal

abbrev pub invariant-loop-x : goal.invariant-loop-x
invariant-loop-x g l =
    (l.work.done ≡ l.initial.work.done)
    × Deep g.M.Measure l.update.table.n 64 l.work.rows
    × ((z : ℕ) → z < l.update.table.n → flag l.work.done z ≡ true → g.M.Measure.within 63 (deep l.work.rows z))
    × Gathers g.G.Graph g.M.Measure l.update (flag l.initial.work.done) l.work l.x

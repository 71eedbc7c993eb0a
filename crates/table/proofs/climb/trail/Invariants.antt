use Rattle.std.proofs.Common.{◌≡◌, ℕ, ◌+◌, ◌-◌, ◌<◌, ◌≤◌, get_or}
use Rattle.graph.specs.Tree.{climb}
use Rattle.table.specs.Climb.{up, FirstClimb}
use Rattle.table.proofs.climb.trail.Given as goal

abbrev pub invariant-loop-at : goal.invariant-loop-at
invariant-loop-at l =
    (l.at ≡ climb (up l.rows) l.steps l.from)
    × ((k : ℕ) → FirstClimb (up l.rows) k l.from l.to → l.steps ≤ k)
    × (l.steps < 64)

abbrev pub decreases-loop-at : goal.decreases-loop-at
decreases-loop-at l = 64 - l.steps

abbrev pub invariant-loop-i : goal.invariant-loop-i
invariant-loop-i l =
    (l.here ≡ climb (up l.rows) (l.steps + 1 - l.i) l.from)
    × ((k : ℕ) → l.i ≤ k → k < l.steps + 1 → get_or l.out k 0 ≡ climb (up l.rows) (l.steps - k) l.from)
    × ((k : ℕ) → l.steps + 1 ≤ k → get_or l.out k 0 ≡ get_or l.initial.out k 0)

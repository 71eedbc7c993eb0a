use Rattle.std.proofs.Common.{◌≡◌, ℕ, ◌<◌, ◌≤◌, get_or, take}
use Rattle.solver.specs.Model.{model}
use Rattle.replay.specs.Replays.{blank, capped, Holds, log_of, Reached, Replayed}
use Rattle.replay.proofs.replay.Given as goal

abbrev pub invariant-loop-entry : goal.invariant-loop-entry
invariant-loop-entry g l =
    Holds (model g.S.TieStore l.solver) l.held
    × Reached g.M.Measure (model g.S.TieStore l.initial.solver) (log_of (take l.entry-index l.entries)) (model g.S.TieStore l.solver)
    × Replayed g.M.Measure (model g.S.TieStore l.initial.solver) (take l.entry-index l.entries) (model g.S.TieStore l.solver)
    × ((k : ℕ) → k < l.entry-index → (get_or l.entries k blank).call ≡ capped (get_or l.initial.entries k blank).call)
    × ((k : ℕ) → l.entry-index ≤ k → get_or l.entries k blank ≡ get_or l.initial.entries k blank)

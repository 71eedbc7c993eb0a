use Rattle.std.proofs.Common.{◌≡◌, None}
use Rattle.law.specs.Refusals.{bad_tie, lowest}
use Rattle.solver.proofs.solver.Solver.check_ties.Given as goal

abbrev pub invariant-loop-a : goal.invariant-loop-a
invariant-loop-a g l =
    let m = g.S.TieStore.meaning l.self.store in
    lowest l.a (λ a. lowest m.count (λ b. bad_tie g.M.Measure a b (m.tie a b))) ≡ None

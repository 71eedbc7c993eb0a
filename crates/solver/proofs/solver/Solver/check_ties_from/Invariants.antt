use Rattle.std.proofs.Common.{◌≡◌, None}
use Rattle.law.specs.Refusals.{bad_tie, lowest}
use Rattle.solver.proofs.solver.Solver.check_ties_from.Given as goal

abbrev pub invariant-loop-b : goal.invariant-loop-b
invariant-loop-b g l = lowest l.b (λ b. bad_tie g.M.Measure l.a b ((g.S.TieStore.meaning l.self.store).tie l.a b)) ≡ None

use Rattle.std.proofs.Common.{◌≡◌}
use Rattle.bounds.specs.Scopes.{in_scope}
use Rattle.bounds.specs.declared.scope.Scope.TheVariants.{First}
use Rattle.solver.specs.Suits.{TableSuits}
use Rattle.solver.proofs.solver.Solver.solve.Given as goal

abbrev pub invariant-loop-k : goal.invariant-loop-k
invariant-loop-k g l =
    let m = g.S.TieStore.meaning l.self.store in
    TableSuits g.M.Measure l.self.total m.count (in_scope m.tie (First l.k)) l.table × (l.cycle ≡ l.initial.cycle)

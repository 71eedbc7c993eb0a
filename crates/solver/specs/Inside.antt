-- The fields of a solver, as clauses see them. Assumes nothing.
use Rattle.solver.specs.Held.{Held}
use Rattle.solver.specs.declared.solver.Solver.TheInside.{Inside}

abbrev pub held : {S M : Type 0} → Inside S M → Held S
held s = record { store = s.store; total = s.total; number = s.number; state = s.state; changes = s.changes; table = s.table }

use Rattle.solver.proofs.solver.Solver.change_count.Goals as goal

pub returns-clause-upheld : goal.returns-clause-upheld
returns-clause-upheld g c = rw (← c.self.view_is) c.self.invariant

use Rattle.std.proofs.Common.{[], rules}
use Rattle.law.proofs.Tellings.{goes_on}
use Rattle.law.specs.declared.call.Call.TheVariants as call
use Rattle.solver.proofs.solver.Solver.depth.Goals as goal

pub returns-clause-logged : goal.returns-clause-logged
returns-clause-logged g c = goes_on g.M.Measure _ _ (call.Depth c.args.marker) [] _ _ (search rules)

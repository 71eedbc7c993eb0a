use Rattle.std.proofs.Common.{length, rules}
use Rattle.law.proofs.Tellings.{goes_on}
use Rattle.law.specs.declared.call.Call.TheVariants as call
use Rattle.solver.proofs.solver.Solver.path.Goals as goal

pub returns-clause-logged : goal.returns-clause-logged
returns-clause-logged g c = goes_on g.M.Measure _ _ (call.Path c.args.marker (length c.args.out.now)) c.args.out.now _ _ (search rules)

use Rattle.graph.proofs.Walks.{tight_prefixes}
use Rattle.graph.proofs.theorems.tight_prefixes.Goals as goal

pub returns : goal.returns
returns g c = tight_prefixes g.M.Measure.group

use Rattle.graph.proofs.Lists.{pigeonhole}
use Rattle.graph.proofs.Trees.{short_climbs}
use Rattle.graph.proofs.theorems.short_climbs.Goals as goal

pub returns : goal.returns
returns c = record { different = pigeonhole; climbs = short_climbs }

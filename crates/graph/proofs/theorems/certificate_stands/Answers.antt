use Rattle.graph.proofs.Trees.{certificate, certifiable}
use Rattle.graph.proofs.theorems.certificate_stands.Goals as goal

pub returns : goal.returns
returns g c = record { gives = certificate g.M.Measure.group; has = certifiable g.M.Measure.group }

use Rattle.std.proofs.Common.{arith}
use Rattle.measure.proofs.Within.{wider_to}
use Rattle.bounds.proofs.capped.Goals as goal

pub least-requires : goal.least-requires
least-requires g c =
    let wider = g.M.Measure.laws.wider in
    (wider_to wider 1 256 _ (omega arith) (c.requires.small _ c.in-Some.is), wider_to wider 1 256 _ (omega arith) c.requires.cap)

use Rattle.std.proofs.Common.{arith}
use Rattle.measure.proofs.Within.{wider_to}
use Rattle.change.proofs.falls.Goals as goal

pub at_most-requires : goal.at_most-requires
at_most-requires g c =
    let wider = g.M.Measure.laws.wider in
    (wider_to wider 1 256 _ (omega arith) c.requires.new, wider_to wider 1 256 _ (omega arith) (c.requires.before c.in-Some.old c.in-Some.is))

use Rattle.std.proofs.Common.{arith}
use Rattle.measure.proofs.Within.{wider_to}
use Rattle.update.proofs.update.Update.stays.Goals as goal

pub at_most-requires : goal.at_most-requires
at_most-requires g c =
    let wider = g.M.Measure.laws.wider in
    (wider_to wider 63 256 _ (omega arith) c.depth.ensures.small, wider_to wider 128 256 _ (omega arith) (c.requires.labels c.args.y c.requires.marker))

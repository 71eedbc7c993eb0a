use Rattle.std.proofs.Common.{arith}
use Rattle.measure.proofs.Within.{wider_to}
use Rattle.graph.specs.Weights.{weights}
use Rattle.table.specs.Climb.{up as parents_of}
use Rattle.update.specs.Reading.{depth}
use Rattle.update.proofs.Ends.{by_test, same_solved}
use Rattle.update.proofs.update.Update.stands.Goals as goal

pub at_most-requires : goal.at_most-requires
at_most-requires g c =
    let wider = g.M.Measure.laws.wider in
    (wider_to wider 63 256 _ (omega arith) c.depth.ensures.small, wider_to wider 64 256 _ (omega arith) c.allowed.ensures.small)

pub returns : goal.returns
returns g c =
    let m = g.M.Measure in
    let old = c.args.self.now.table in
    let before = c.requires.standing in
    by_test c.at_most.result c.at_most.ensures
    (λ h. same_solved m.group old.n before.was (weights g.G.Graph m c.args.self.now.graph) c.args.a c.args.b (m.value c.args.w) (depth m old.rows) (parents_of old.rows) before.solved before.low
    c.requires.start c.requires.end (rw (c.depth.ensures.is, c.allowed.ensures.is) at h))
    (λ h k. h (rw (c.depth.ensures.is, c.allowed.ensures.is) k))

use Rattle.std.proofs.Common.{subst, arith}
use Rattle.update.specs.Tabled.{Ready}
use Rattle.update.proofs.update.Update.allowed.Goals as goal

pub returns : goal.returns
returns g c =
    let m = g.M.Measure in
    let ready = subst (Ready g.G.Graph m) c.self.view_is c.self.invariant in
    let added = c.sum.ensures 63 1 (omega arith) c.depth.ensures.small (ready.graph.small c.args.a c.args.b c.args.w c.requires.edge) in
    record { is = rw c.depth.ensures.is at added.1; small = added.0 }

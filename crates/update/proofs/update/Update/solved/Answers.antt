use Rattle.std.proofs.Common.{ap, ◌∙◌, subst, arith}
use Rattle.measure.proofs.Within.{wider_to}
use Rattle.table.specs.Climb.{up as parents_of}
use Rattle.update.specs.Tabled.{Tabled, Ready}
use Rattle.update.proofs.Shrinks.{shrunk}
use Rattle.update.proofs.update.Update.solved.Goals as goal

pub returns-clause-solution : goal.returns-clause-solution
returns-clause-solution g c =
    let m = g.M.Measure in
    let u = c.args.self.now in
    let ready = subst (Ready g.G.Graph m) c.self.view_is c.self.invariant in
    record {
      markers = c.of.ensures.n ∙ c.n.ensures ∙ ap (λ (b : Tabled _). b.table.n) c.self.view_is;
      solved = rw c.of.ensures.rows c.requires.solved;
      depths = rw c.of.ensures.rows
          (shrunk g.G.Graph m u.graph u.table.n c.args.rows (parents_of c.args.rows) ready.graph.small c.requires.solved (λ z h. wider_to m.laws.wider 128 256 _ (omega arith) (c.requires.sizes z h)) u.table.few);
    }

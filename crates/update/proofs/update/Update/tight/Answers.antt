use Rattle.std.proofs.Common.{◌≡◌, Some, sym, subst, arith}
use Rattle.measure.proofs.Within.{wider_to}
use Rattle.update.specs.Tabled.{Tabled}
use Rattle.update.proofs.Restores.{edge_sum, equal_by, tight_edge}
use Rattle.update.proofs.update.Update.tight.Goals as goal

pub returns : goal.returns
returns g c =
    let m = g.M.Measure in
    let u = c.args.self.now in
    let wider = g.M.Measure.laws.wider in
    let edge = subst (λ (v : Tabled _). g.G.Graph.weight v.graph c.args.x c.args.z ≡ Some c.in-Some.w) c.self.view_is (sym c.in-Some.ensures) in
    let by = equal_by m.group _ _ c.compare.result (c.compare.ensures (wider_to wider 63 256 _ (omega arith) c.depth.ensures.small) (wider_to wider 64 256 _ (omega arith) c.allowed.ensures.small)) in
    let same = rw (← c.is_eq.ensures, c.depth.ensures.is, c.allowed.ensures.is) at by in (
      (λ t. tight_edge g.G.Graph m u.graph u.table.n u.table.rows c.args.x c.args.z c.in-Some.w edge c.requires.start c.requires.end (same.0 t)),
      (λ t. same.1 (edge_sum g.G.Graph m u.graph u.table.n u.table.rows c.args.x c.args.z c.in-Some.w edge t)),
    )

use Rattle.std.proofs.Common.{◌-◌, sym, refl, ◌∙◌, true≢false, arith}
use Rattle.graph.specs.Weights.{weights}
use Rattle.table.specs.Climb.{up as parents_of}
use Rattle.table.proofs.Climbs.{parent_shorter}
use Rattle.update.specs.Reading.{depth}
use Rattle.update.specs.Restoring.{TightEdge}
use Rattle.update.proofs.Restores.{datum_stands, stands_down, stands_up}
use Rattle.update.proofs.update.Update.path_stands.Goals as goal

pub returns-then-not-tight : goal.returns-then-not-tight
returns-then-not-tight g c =
    let m = g.M.Measure in
    let u = c.args.self.now in (
      (λ e. absurd (true≢false (sym e))),
      (λ s. sym c.if-not-tight.true ∙ c.tight.ensures.1
          (rw c.parent-above.ensures.is (c.loop-here.invariant.2 s 0 (omega (arith, c.loop-here-test.true))))),
    )

pub loop-here-smaller : goal.loop-here-smaller
loop-here-smaller g c =
    let old = c.args.old.now in
    rw c.parent-above.ensures.is (parent_shorter (parents_of old.rows) (old.n - 1) c.loop-here.here c.loop-here-test.true (old.tree c.loop-here.here c.loop-here.invariant.0))

pub loop-here-preserved : goal.loop-here-preserved
loop-here-preserved g c =
    let m = g.M.Measure in
    let u = c.args.self.now in
    let p = parents_of c.args.old.now.rows in
    let w = weights g.G.Graph m u.graph in
    let L = depth m u.table.rows in
    let here = c.loop-here.here in
    let edge : TightEdge m.group u.table.n w L (p here) here = rw c.parent-above.ensures.is at c.tight.ensures.0 c.if-not-tight.false in (
      c.parent-above.ensures.within,
      (λ s. c.loop-here.invariant.1 (stands_down m.group u.table.n w L p here edge (rw c.parent-above.ensures.is at s))),
      (λ s. rw c.parent-above.ensures.is (stands_up m.group u.table.n w L p here (c.loop-here.invariant.2 s))),
    )

pub returns : goal.returns
returns g c =
    let m = g.M.Measure in
    let u = c.args.self.now in
    let old = c.args.old.now in (
      (λ _. c.loop-here.invariant.1 (datum_stands m.group u.table.n (weights g.G.Graph m u.graph) (depth m u.table.rows) (parents_of old.rows) old.root c.loop-here.here c.loop-here-test.false)),
      (λ _. refl),
    )

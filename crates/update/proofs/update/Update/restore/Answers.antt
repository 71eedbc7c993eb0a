use Rattle.std.proofs.Common.{ℕ, ◌<◌, ◌≤◌, sym, ◌∙◌, subst, true≢false, arith}
use Rattle.measure.proofs.Within.{wider_to}
use Rattle.graph.specs.Tree.{Tree}
use Rattle.table.specs.Climb.{up as parents_of}
use Rattle.update.specs.Tabled.{Ready}
use Rattle.update.proofs.Restores.{restore_keep, restore_kept, restore_solved, restore_take}
use Rattle.update.proofs.update.Update.restore.Goals as goal
use Rattle.update.proofs.update.Update.restore.Goals.{then-rows-m+then-path_stands, else-rows-m, else-rows-m-via-then-rows-m+else-path_stands, else-rows-m-via-else-rows-m}

pub loop-m-preserved : goal.loop-m-preserved
loop-m-preserved g c =
    let u = c.args.self.now in
    let k = c.loop-m.m in
    let low : c.loop-m.m < 64 = omega (arith, c.loop-m-test.true, c.n-m-end.ensures, c.args.old.now.few) in
    elim c.if-rows-m.branch [
      | then-rows-m+then-path_stands v ↦
          rw v.rows-is (restore_take g.M.Measure _ _ _ _ c.loop-m.rows k c.loop-m.invariant (v.path_stands.ensures.0 v.if-path_stands.true) low c.parent-parent.result c.parent-parent.ensures.is)
      | else-rows-m v ↦
          rw v.rows-is
          (restore_keep g.M.Measure _ _ _ _ c.loop-m.rows k c.loop-m.invariant
          (elim v.else-rows-m.branch [
            | else-rows-m-via-then-rows-m+else-path_stands r ↦ (λ s. absurd (true≢false (sym (r.path_stands.ensures.1 s) ∙ r.if-path_stands.false)))
            | else-rows-m-via-else-rows-m r ↦ (λ s. sym (c.loop-m.invariant.later k (omega arith)) ∙ r.if-rows-m.false ∙ c.parent-parent.ensures.is)
          ]))
    ]

pub solved-requires : goal.solved-requires
solved-requires g c =
    let m = g.M.Measure in
    let u = c.args.self.now in
    let old = c.args.old.now in
    let ready = subst (Ready g.G.Graph m) c.self.view_is c.self.invariant in
    let all : c.args.self.now.table.n ≤ c.loop-m.m = omega (arith, c.loop-m-test.false, c.n-m-end.ensures, c.requires.same) in
    let tree = subst (λ (k : ℕ). Tree k (parents_of old.rows)) c.requires.same (record { root = old.root; inside = old.within; climbs = old.tree }) in
    record {
      sizes = λ z h. rw (c.loop-m.invariant.depths z) (wider_to m.laws.wider 63 128 _ (omega arith) (ready.depths z h));
      solved = restore_solved m _ _ _ _ c.loop-m.rows c.loop-m.m c.loop-m.invariant all u.table.some tree c.requires.solved;
    }

pub returns : goal.returns
returns g c =
    let m = g.M.Measure in
    let u = c.args.self.now in
    let old = c.args.old.now in
    let all : c.args.self.now.table.n ≤ c.loop-m.m = omega (arith, c.loop-m-test.false, c.n-m-end.ensures, c.requires.same) in
    let tree = subst (λ (k : ℕ). Tree k (parents_of old.rows)) c.requires.same (record { root = old.root; inside = old.within; climbs = old.tree }) in
    record {
      depths = λ z. rw c.solved.ensures.rows (c.loop-m.invariant.depths z);
      solution = c.solved.ensures.solution;
      kept = rw (c.requires.same, c.solved.ensures.rows) (restore_kept m _ _ _ _ c.loop-m.rows c.loop-m.m c.loop-m.invariant all u.table.some tree c.requires.solved);
    }

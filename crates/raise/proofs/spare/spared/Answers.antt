use Rattle.std.proofs.Common.{◌≡◌, ℕ, ◌<◌, Some, length, sym, ap, ◌∙◌, subst, arith, rules}
use Rattle.graph.specs.Tree.{climb}
use Rattle.table.specs.Climb.{up as parents_of}
use Rattle.update.specs.Tabled.{Ready, Tabled}
use Rattle.raise.proofs.Spares.{part_start, part_hit, part_spared, part_kept, part_sizes, passes_not_datum}
use Rattle.raise.proofs.spare.spared.Goals as goal
use Rattle.raise.proofs.spare.spared.Goals.{then-passes+in-Some, then-passes+in_default, else-passes}

pub loop-z-init : goal.loop-z-init
loop-z-init g c = rw c.start-work.ensures (part_start _ _ _ _ _)

pub loop-z-preserved : goal.loop-z-preserved
loop-z-preserved g c =
    let u = c.args.update.now in
    let now = c.loop-z.work in
    let z = c.loop-z.z in
    let b = c.args.b in
    let same = ap (λ (v : Tabled _). v.table.n) c.update.view_is in
    let inside : c.loop-z.z < c.args.update.now.table.n = omega (arith, c.loop-z-test.true, c.n-z-end.ensures, same) in
    let small : c.loop-z.z < 64 = omega (arith, inside, c.args.update.now.table.few) in
    let low : c.loop-z.z < length c.args.update.now.table.rows = search rules in
    elim c.if-passes.branch [
      | then-passes+in-Some v ↦
          let met = subst (λ (v : Tabled _). (k : ℕ) × (climb (parents_of v.table.rows) k z ≡ b)) c.update.view_is v.if-passes.ensures in
          let edge = subst (λ (x : Tabled _). g.G.Graph.weight x.graph 0 z ≡ Some v.in-Some.w) c.update.view_is (sym v.in-Some.ensures) in
          rw v.work-is (part_hit _ _ _ _ _ now z c.loop-z.invariant small low met v.in-Some.w edge)
      | then-passes+in_default v ↦
          let met = subst (λ (v : Tabled _). (k : ℕ) × (climb (parents_of v.table.rows) k z ≡ b)) c.update.view_is v.if-passes.ensures in
          let pos = passes_not_datum g.G.Graph u.graph u.table.rows u.table.n b z u.table.root c.requires met in
          let ready = subst (Ready g.G.Graph g.M.Measure) c.update.view_is c.update.invariant in
          let edge = ready.graph.reach z pos (rw (← ready.same) inside) in
          absurd (v.in_default.not-Some edge.0 (v.weight.ensures ∙ ap (λ (x : Tabled _). g.G.Graph.weight x.graph 0 z) c.update.view_is ∙ edge.1))
      | else-passes v ↦
          rw v.work-is (part_spared _ _ _ _ _ now z c.loop-z.invariant small low (subst (λ (v : Tabled _). (k : ℕ) → climb (parents_of v.table.rows) k z ≡ b → ⊥) c.update.view_is v.if-passes.ensures))
    ]

pub returns : goal.returns
returns g c =
    let u = c.args.update.now in
    let ready = subst (Ready g.G.Graph g.M.Measure) c.update.view_is c.update.invariant in
    let same = ap (λ (v : Tabled _). v.table.n) c.update.view_is in
    let each = λ (z : ℕ) (h : z < c.args.update.now.table.n). c.loop-z.invariant.each z (omega (arith, h, c.loop-z-test.false, c.n-z-end.ensures, same)) in
    record {
      parted = each;
      sizes = part_sizes g.G.Graph g.M.Measure u.graph u.table.rows u.table.n c.args.b c.loop-z.work each ready.graph.small ready.depths;
      kept = part_kept g.G.Graph g.M.Measure u.graph u.table.rows u.table.n c.args.b c.loop-z.work each ready.depths;
    }

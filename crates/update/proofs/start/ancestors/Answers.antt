use Rattle.std.proofs.Common.{ℕ, ◌-◌, ◌<◌, true, length, set, sym, subst, arith}
use Rattle.graph.specs.Tree.{climbed}
use Rattle.table.specs.Climb.{up as parents_of}
use Rattle.table.proofs.Climbs.{parent_shorter}
use Rattle.update.specs.Reading.{flag}
use Rattle.update.specs.Lowering.{Ancestors}
use Rattle.update.proofs.Starts.{Marked, mark_start, mark_step, mark_end}
use Rattle.update.proofs.start.ancestors.Goals as goal

pub loop-here-init : goal.loop-here-init
loop-here-init c = (c.requires, mark_start (parents_of c.args.old.now.rows) c.args.m)

pub loop-here-smaller : goal.loop-here-smaller
loop-here-smaller c =
    let t = c.args.old.now in
    let p = parents_of t.rows in
    let here = c.loop-here.here in
    subst (λ (u : ℕ). length (climbed p (t.n - 1) u) < length (climbed p (t.n - 1) here)) (sym c.parent-here.ensures.is)
    (parent_shorter p (t.n - 1) here c.loop-here-test.true (t.tree here c.loop-here.invariant.0))

pub loop-here-preserved : goal.loop-here-preserved
loop-here-preserved c =
    let t = c.args.old.now in
    let p = parents_of t.rows in
    let here = c.loop-here.here in
    let low : c.loop-here.here < length c.loop-here.up = (let few = t.few in let inside = c.loop-here.invariant.0 in let size = c.loop-here.invariant.1.long in omega arith) in (
      c.parent-here.ensures.within,
      subst (λ (u : ℕ). Marked p c.args.m u (set c.loop-here.up here true)) (sym c.parent-here.ensures.is) (mark_step p c.args.m here c.loop-here.up c.loop-here.invariant.1 low),
    )

pub returns : goal.returns
returns c =
    let t = c.args.old.now in
    let p = parents_of t.rows in
    let low : c.loop-here.here < length c.loop-here.up = (let few = t.few in let inside = c.loop-here.invariant.0 in let size = c.loop-here.invariant.1.long in omega arith) in
    subst (λ (u : ℕ). Ancestors p c.args.m (flag (set c.loop-here.up u true))) c.loop-here-test.false
    (mark_end p c.args.m c.loop-here.here c.loop-here.up c.loop-here.invariant.1 low t.root c.loop-here-test.false)

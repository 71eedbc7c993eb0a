use Rattle.std.proofs.Common.{sym, ◌∙◌, true≢false}
use Rattle.update.specs.Reading.{flag, depth}
use Rattle.update.proofs.Picks.{picked_first, picked_same, picked_new}
use Rattle.update.proofs.nearest.nearest.Goals as goal
use Rattle.update.proofs.nearest.nearest.Goals.{in-Some, in_default-2, in_default}

pub loop-z-preserved : goal.loop-z-preserved
loop-z-preserved g c =
    let m = g.M.Measure in
    let X = flag c.args.work.now.done in
    let L = depth m c.args.work.now.rows in
    let d = depth m c.args.old.now.rows in
    let z = c.loop-z.z in
    elim c.match-best.branch [
      | in-Some w ↦ rw w.best-is (picked_same m.group X d L z w.in-Some.y (rw w.in-Some.is at c.loop-z.invariant) (λ _. w.leads.ensures.0 w.if-leads.true))
      | in_default-2 w ↦ rw w.best-is (picked_new m.group X d L z w.in-Some.y (rw w.in-Some.is at c.loop-z.invariant) c.if-work-z.false (λ h. true≢false (sym (w.leads.ensures.1 h) ∙ w.if-leads.false)))
      | in_default w ↦ rw w.best-is (picked_first m.group X d L z (rw w.in_default.is at c.loop-z.invariant) c.if-work-z.false)
    ]

use Rattle.std.proofs.Common.{◌+◌, sym, ◌∙◌, subst, true≢false, arith, rules}
use Rattle.update.specs.declared.work.Work.{Work}
use Rattle.update.proofs.Turns.{Turn, turn_done, turn_none, turn_above, turn_take, turn_clash}
use Rattle.update.proofs.relax.relax_from.Goals as goal
use Rattle.update.proofs.relax.relax_from.Goals.{then-not-work-z+in-Some+then-not-at_most+else-up-z, then-not-work-z+in-Some+else-not-at_most, then-not-work-z+in_default, else-not-work-z}

pub at_most-requires : goal.at_most-requires
at_most-requires g c =
    let added = c.sum-sum.ensures 255 1 (omega arith) c.requires.wide (c.requires.graph.small c.args.y c.loop-z.z c.in-Some.w (sym c.in-Some.ensures)) in
    (c.loop-z.invariant.2 c.loop-z.z (rw c.marker_count-z-end.ensures at c.loop-z-test.true), added.0)

pub returns-then-up-z : goal.returns-then-up-z
returns-then-up-z g c =
    let edge = sym c.in-Some.ensures in
    record {
      relaxed = (
        c.loop-z.invariant.0,
        turn_clash g.G.Graph g.M.Measure c.args.graph.now c.args.work.now c.args.up.now c.args.y c.loop-z.work c.loop-z.z c.loop-z.invariant
            c.in-Some.w c.sum-sum.result edge c.requires.marker (rw c.marker_count-z-end.ensures at c.loop-z-test.true)
            c.sum-sum.ensures c.requires.wide (c.requires.graph.small c.args.y c.loop-z.z c.in-Some.w edge)
            c.if-not-work-z.true (λ h. true≢false (sym (c.at_most.ensures.1 h) ∙ c.if-not-at_most.true)) c.if-up-z.true,
      );
      done = c.loop-z.invariant.1;
      sizes = c.loop-z.invariant.3;
    }

pub loop-z-preserved : goal.loop-z-preserved
loop-z-preserved g c =
    let s = g.G.Graph in
    let m = g.M.Measure in
    let x = c.args.graph.now in
    let old = c.args.work.now in
    let up = c.args.up.now in
    let y = c.args.y in
    let now = c.loop-z.work in
    let z = c.loop-z.z in
    let goal : Work → Type 0 = λ v. Turn s m x old up y v (z + 1) in
    elim c.if-not-work-z.branch [
      | then-not-work-z+in-Some+then-not-at_most+else-up-z w ↦
          let edge = sym w.in-Some.ensures in
          subst goal (sym w.work-is)
          (turn_take s m x old up y now z c.loop-z.invariant w.in-Some.w w.sum-sum.result edge c.requires.marker (rw c.marker_count-z-end.ensures at c.loop-z-test.true)
          w.sum-sum.ensures c.requires.wide (c.requires.graph.small y z w.in-Some.w edge)
          w.if-not-work-z.true (λ h. true≢false (sym (w.at_most.ensures.1 h) ∙ w.if-not-at_most.true)) w.if-up-z.false (search rules))
      | then-not-work-z+in-Some+else-not-at_most w ↦
          let edge = sym w.in-Some.ensures in
          subst goal (sym w.work-is)
          (turn_above s m x old up y now z c.loop-z.invariant w.in-Some.w w.sum-sum.result edge c.requires.marker (rw c.marker_count-z-end.ensures at c.loop-z-test.true)
          w.sum-sum.ensures c.requires.wide (c.requires.graph.small y z w.in-Some.w edge)
          (w.at_most.ensures.0 w.if-not-at_most.false))
      | then-not-work-z+in_default w ↦ subst goal (sym w.work-is) (turn_none s m x old up y now z c.loop-z.invariant (sym w.weight.ensures ∙ w.in_default.is))
      | else-not-work-z w ↦ subst goal (sym w.work-is) (turn_done s m x old up y now z c.loop-z.invariant w.if-not-work-z.false)
    ]

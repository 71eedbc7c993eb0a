use Rattle.std.proofs.Common.{◌<◌, ◌≤◌, List, length, subst, arith, take_all}
use Rattle.law.specs.declared.call.Entry.{Entry}
use Rattle.solver.specs.Model.{model}
use Rattle.replay.specs.Replays.{log_of, Reached}
use Rattle.replay.proofs.Replaying.{calls_more, reached_more, reached_ran, replayed_more, rest_more}
use Rattle.replay.proofs.replay.Goals as goal

pub loop-entry-preserved : goal.loop-entry-preserved
loop-entry-preserved g c =
    let μ = g.M.Measure in
    let l = c.loop-entry in
    let h : c.loop-entry.entry-index < length c.loop-entry.entries = omega arith in
    let made = c.answer_to-answer.ensures.made in (
      c.answer_to-answer.ensures.holds,
      reached_more μ _ _ _ l.entries l.entry-index _ h made l.invariant.1,
      replayed_more μ _ _ _ l.entries l.entry-index _ h made l.invariant.2,
      calls_more l.entries _ l.entry-index _ h c.cap-entry.ensures l.invariant.4 l.invariant.3,
      rest_more l.entries _ l.entry-index _ l.invariant.4,
    )

pub returns-clause-ran : goal.returns-clause-ran
returns-clause-ran g c =
    let l = c.loop-entry in
    let m = model g.S.TieStore c.args.solver.now in
    let m' = model g.S.TieStore c.loop-entry.solver in
    let past : length c.loop-entry.entries ≤ c.loop-entry.entry-index = omega arith in
    reached_ran g.M.Measure m _ m' (subst (λ (es : List Entry). Reached g.M.Measure m (log_of es) m') (take_all l.entry-index l.entries past) l.invariant.1)

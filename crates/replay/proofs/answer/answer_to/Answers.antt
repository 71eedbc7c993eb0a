use Rattle.law.specs.declared.call.Call.TheVariants as call
use Rattle.replay.proofs.Holding.{holds_on}
use Rattle.replay.proofs.answer.answer_to.Goals as goal

pub returns-in-Tie-clause-holds : goal.returns-in-Tie-clause-holds
returns-in-Tie-clause-holds g c =
    let t = c.in-Tie in
    holds_on g.M.Measure _ _ (call.Tie t.from t.to t.amount t.room) _ _ _ c.args.token tt c.tie.ensures.made.answered c.requires.holds

pub returns-in-Untie-clause-holds : goal.returns-in-Untie-clause-holds
returns-in-Untie-clause-holds g c =
    let t = c.in-Untie in
    holds_on g.M.Measure _ _ (call.Untie t.from t.to) _ _ _ c.args.token tt c.untie.ensures.answered c.requires.holds

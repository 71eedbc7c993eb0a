use Rattle.std.proofs.Common.{length, rules}
use Rattle.std.proofs.lemmas.Result.{err_from_is_err_and}
use Rattle.law.proofs.Tellings.{goes_on}
use Rattle.law.specs.declared.call.Call.TheVariants as call
use Rattle.solver.specs.Inside.{held}
use Rattle.solver.specs.Model.{model}
use Rattle.solver.proofs.Ties.{pair_open}
use Rattle.solver.proofs.Trials.{tie_accepted, trial_accepted, trial_refused, trial_upheld}
use Rattle.solver.proofs.solver.Solver.trial.Goals as goal

pub returns-in_err-counts : goal.returns-in_err-counts
returns-in_err-counts g c =
    let t = c.args in
    let room = length c.args.cycle.now in
    let p = err_from_is_err_and c.from_residual.result c.from_residual.ensures.1 in
    let told = trial_refused g.M.Measure _ t.from t.to t.amount room _ _ _ _ c.in_err-counts.ensures.answered in
    rw (p.1, p.2) (record {
      answered = told;
      logged = goes_on g.M.Measure _ _ (call.Trial t.from t.to t.amount room) _ _ _ told;
      numbered = tt;
    })

pub invariant_of-self : goal.invariant_of-self
invariant_of-self g c =
    let st = g.S.TieStore in
    let μ = g.M.Measure in
    let t = c.args in
    let before = c.args.cycle.now in
    let n = c.in_ok-counts.counts in
    let s = held c.self.inside in
    let s' = held c.self-2.inside in
    let tied = rw (← c.self.view_is) at (rw (← c.self-2.view_is) at c.in_ok-counts.ensures.answered) in
    let x = tie_accepted μ (model st s) t.from t.to t.amount (length before) before c.tie.new.cycle n.moved n.reparented (model st s') tied in
    let was = (rw (← c.self.view_is) at c.amount_before-before.ensures) (pair_open μ (model st s).standing t.from t.to _ x.0) in
    trial_upheld st μ s s' c.self.invariant.suits c.self-2.invariant.suits t.from t.to t.amount (length before) c.amount_before-before.result was x.0 x.1.standing

pub returns : goal.returns
returns g c =
    let st = g.S.TieStore in
    let μ = g.M.Measure in
    let t = c.args in
    let before = c.args.cycle.now in
    let n = c.in_ok-counts.counts in
    let s = held c.self.inside in
    let s' = held c.self-2.inside in
    let tied = rw (← c.self.view_is) at (rw (← c.self-2.view_is) at c.in_ok-counts.ensures.answered) in
    let x = tie_accepted μ (model st s) t.from t.to t.amount (length before) before c.tie.new.cycle n.moved n.reparented (model st s') tied in
    let was = (rw (← c.self.view_is) at c.amount_before-before.ensures) (pair_open μ (model st s).standing t.from t.to _ x.0) in
    let told = trial_accepted μ (model st s) t.from t.to t.amount (length before) before c.tie.new.cycle n.moved n.reparented (model st s') c.amount_before-before.result was tied in
    rw (← c.self.view_is) (record { answered = told; logged = goes_on μ (model st s) _ (call.Trial t.from t.to t.amount (length before)) before _ _ told; numbered = search rules })

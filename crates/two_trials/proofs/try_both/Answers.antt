use Rattle.replay.proofs.Holding.{trial_holds}
use Rattle.two_trials.proofs.try_both.Goals as goal

pub keep_trial-requires : goal.keep_trial-requires
keep_trial-requires g c =
    let done = c.in_ok-kept.ensures in
    record { holds = trial_holds g.M.Measure _ _ _ _ _ _ _ _ _ _ c.in_ok-kept.kept done.answered done.numbered }

pub end_trial-requires : goal.end_trial-requires
end_trial-requires g c =
    let done = c.in_ok-tried.ensures in
    record { holds = trial_holds g.M.Measure _ _ _ _ _ _ _ _ _ _ c.in_ok-tried.tried done.answered done.numbered }

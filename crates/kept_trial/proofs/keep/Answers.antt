use Rattle.replay.proofs.Holding.{trial_holds}
use Rattle.kept_trial.proofs.keep.Goals as goal

pub keep_trial-requires : goal.keep_trial-requires
keep_trial-requires g c =
    let done = c.in_ok-counts.ensures in
    record { holds = trial_holds g.M.Measure _ _ _ _ _ _ _ _ _ _ c.in_ok-counts.token done.answered done.numbered }

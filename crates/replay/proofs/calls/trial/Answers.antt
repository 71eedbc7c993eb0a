use Rattle.std.proofs.Common.{refl, rules}
use Rattle.law.specs.declared.call.Call.TheVariants as call
use Rattle.replay.proofs.Holding.{trial_refused}
use Rattle.replay.proofs.Making.{part}
use Rattle.replay.proofs.calls.trial.Goals as goal

pub returns-in-Err-clause-made : goal.returns-in-Err-clause-made
returns-in-Err-clause-made g c =
    part g.M.Measure _ _ (λ k. call.Trial c.args.from c.args.to c.args.amount k) _ _ c.args.room _ c.trial.new.cycle _ (search rules) (λ j. refl) (search rules) (search rules) c.in-Err.ensures.answered

pub returns-in-Err-clause-holds : goal.returns-in-Err-clause-holds
returns-in-Err-clause-holds g c = trial_refused g.M.Measure _ _ _ _ _ _ _ _ c.in-Err.why c.args.token c.in-Err.ensures.answered c.requires.holds

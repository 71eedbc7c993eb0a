use Rattle.std.proofs.Common.{refl, rules}
use Rattle.law.specs.declared.call.Call.TheVariants as call
use Rattle.replay.proofs.Making.{part}
use Rattle.replay.proofs.calls.open.Goals as goal

pub returns : goal.returns
returns g c = record {
  made = part g.M.Measure _ _ (λ k. call.Open k) _ _ c.args.room _ c.open.new.cycle _ (search rules) (λ j. refl) (search rules) (search rules) c.open.ensures.answered;
}

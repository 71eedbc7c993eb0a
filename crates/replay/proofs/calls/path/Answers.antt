use Rattle.std.proofs.Common.{refl, rules}
use Rattle.law.specs.declared.call.Call.TheVariants as call
use Rattle.replay.proofs.Making.{part}
use Rattle.replay.proofs.calls.path.Goals as goal

pub returns : goal.returns
returns g c =
    part g.M.Measure _ _ (λ k. call.Path c.args.marker k) _ _ c.args.room _ c.path.new.out _ (search rules) (λ j. refl) (search rules) (search rules) c.path.ensures.answered

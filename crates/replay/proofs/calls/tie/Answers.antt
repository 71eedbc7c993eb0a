use Rattle.std.proofs.Common.{refl, rules}
use Rattle.law.specs.declared.call.Call.TheVariants as call
use Rattle.replay.proofs.Making.{part}
use Rattle.replay.proofs.calls.tie.Goals as goal

pub returns : goal.returns
returns g c = record {
  made = part g.M.Measure _ _ (λ k. call.Tie c.args.from c.args.to c.args.amount k) _ _ c.args.room _ c.tie.new.cycle _ (search rules) (λ j. refl) (search rules) (search rules) c.tie.ensures.answered;
}

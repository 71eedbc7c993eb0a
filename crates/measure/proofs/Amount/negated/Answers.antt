use Rattle.std.proofs.Common.{neg_ℤ, arith}
use Rattle.std.proofs.lemmas.Int.{ints}
use Rattle.measure.specs.Integers.{both}
use Rattle.measure.proofs.Saturated.{exact}
use Rattle.measure.proofs.Amount.negated.Goals as goal

pub returns : goal.returns
returns c k le within_a =
    let mm = exact 63 (neg_ℤ c.args.self.mm) _ _ c.saturating_sub.ensures (omega (arith, ints)) (omega (arith, ints), omega (arith, ints)) in
    let marks = exact 31 (neg_ℤ c.args.self.marks) _ _ c.saturating_sub-2.ensures (omega (arith, ints)) (omega (arith, ints), omega (arith, ints)) in
    (((omega (arith, ints), omega (arith, ints)), (omega (arith, ints), omega (arith, ints))), both _ _ (omega (arith, ints)) (omega (arith, ints)))

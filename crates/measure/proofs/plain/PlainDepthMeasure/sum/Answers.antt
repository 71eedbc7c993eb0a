use Rattle.std.proofs.Common.{ap, arith}
use Rattle.std.proofs.lemmas.Int.{ints}
use Rattle.measure.specs.Integers.{Pair}
use Rattle.measure.proofs.plain.PlainDepthMeasure.sum.Goals as goal

-- neither has marks, so the sum has none
pub returns : goal.returns
returns c i j le a b =
    let r = c.plus.ensures.added i j le (a.0, (omega (arith, ints), omega (arith, ints))) (b.0, (omega (arith, ints), omega (arith, ints))) in
    let marks = ap (λ (p : Pair). p.1) r.1 in
    ((r.0.0, omega (arith, ints)), ap (λ (p : Pair). p.0) r.1)

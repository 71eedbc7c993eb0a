use Rattle.std.proofs.Common.{◌+ℤ◌, arith}
use Rattle.std.proofs.lemmas.Int.{ints}
use Rattle.measure.specs.Integers.{both}
use Rattle.measure.proofs.Saturated.{exact}
use Rattle.measure.proofs.Amount.plus.Goals as goal

pub returns-clause-added : goal.returns-clause-added
returns-clause-added c i j le within_a within_b =
    let mm = exact 63 (c.args.self.mm +ℤ c.args.other.mm) _ _ c.saturating_add.ensures (omega (arith, ints)) (omega (arith, ints), omega (arith, ints)) in
    let marks = exact 31 (c.args.self.marks +ℤ c.args.other.marks) _ _ c.saturating_add-2.ensures (omega (arith, ints)) (omega (arith, ints), omega (arith, ints)) in
    (((omega (arith, ints), omega (arith, ints)), (omega (arith, ints), omega (arith, ints))), both _ _ (omega (arith, ints)) (omega (arith, ints)))

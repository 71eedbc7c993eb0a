use Rattle.std.proofs.Common.{sym, subst, arith}
use Rattle.measure.proofs.Within.{wider_to}
use Rattle.measure.specs.declared.Amount.{Amount}
use Rattle.solver.proofs.solver.Solver.check_opening.Goals as goal

pub at_most-requires : goal.at_most-requires
at_most-requires g c =
    let μ = g.M.Measure in
    let total = c.self.inside.total in (
      wider_to μ.laws.wider 1 256 total (omega arith) (μ.laws.single total (sym c.if-not-admitted.ensures)),
      subst (λ (a : Amount). μ.within 256 a) (sym c.zero-zero.ensures) (wider_to μ.laws.wider 0 256 μ.zero (omega arith) μ.laws.zero_within),
    )

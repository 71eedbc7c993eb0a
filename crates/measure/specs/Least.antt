-- The lesser of two amounts. Assumes nothing.
use Rattle.std.specs.Prelude.{◌⊎◌}
use Rattle.std.proofs.Common.{inl, inr}
use Rattle.measure.specs.declared.Amount.{Amount}
use Rattle.measure.specs.declared.Measure as measure

abbrev pub first_of : {P Q X : Type 0} → P ⊎ Q → X → X → X
first_of (inl _) a b = a
first_of (inr _) a b = b

module _ {M : Type 0} (μ : measure.Ghosts M) where
  -- a, unless b is below it
  abbrev pub least : Amount → Amount → Amount
  least a b = first_of (μ.group.le_total (μ.value a) (μ.value b)) a b

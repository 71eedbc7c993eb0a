-- Amounts compared by what they denote. Assumes nothing.
use Rattle.std.specs.Prelude.{Bool, true, false, ◌&&◌}
use Rattle.measure.specs.declared.Amount.{Amount}
use Rattle.measure.specs.declared.Measure as measure
use Rattle.measure.specs.Least.{first_of}

module _ {M : Type 0} (μ : measure.Ghosts M) where
  abbrev pub at_most : Amount → Amount → Bool
  at_most a b = first_of (μ.group.le_total (μ.value a) (μ.value b)) true false

  abbrev pub same_value : Amount → Amount → Bool
  same_value a b = at_most a b && at_most b a

-- Ties and total depth that are no larger than an admitted amount. Assumes nothing.
use Rattle.std.specs.Prelude.{◌≡◌, ℕ, Some, Option}
use Rattle.measure.specs.declared.Amount.{Amount}
use Rattle.measure.specs.declared.Measure as measure
use Rattle.law.specs.Standing.{Ties}

module _ {M : Type 0} (μ : measure.Ghosts M) where
  -- an amount, where there is one, is not large
  abbrev pub Small : Option Amount → Type 0
  Small o = (w : Amount) → o ≡ Some w → μ.within 1 w

  pub record BoundsSound (total : Amount) (t : Ties) : Type 0 where
    pub total_small : μ.within 1 total
    pub small : (x y : ℕ) → Small (t x y)

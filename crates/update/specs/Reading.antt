-- Rows and flags read as functions of the marker. Assumes nothing.
use Rattle.std.specs.Prelude.{ℕ, ◌<◌, Bool, false, List, slice_index_or}
use Rattle.measure.specs.declared.Measure as measure
use Rattle.table.specs.declared.row.Row.{Row}
use Rattle.table.specs.Climb.{deep}

abbrev pub flag : List Bool → ℕ → Bool
flag xs z = slice_index_or xs z false

module _ {M : Type 0} (μ : measure.Ghosts M) where
  -- the elements that the depths denote
  abbrev pub depth : List Row → ℕ → μ.group.carrier
  depth rows z = μ.value (deep rows z)

  -- the depths of the first n are within k
  abbrev pub Deep : ℕ → ℕ → List Row → Type 0
  Deep n k rows = (z : ℕ) → z < n → μ.within k (deep rows z)

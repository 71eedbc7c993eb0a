-- The marker to settle next. Assumes nothing.
use Rattle.std.specs.Prelude.{◌≡◌, ℕ, ◌<◌, Bool, true, Some, None, Option}
use Rattle.measure.specs.Group.{OrderedGroup}
use Rattle.graph.proofs.Relabel.{Picked}

-- of the first i markers, the one to settle next, if any is not settled
abbrev pub Best : (g : OrderedGroup) → (ℕ → Bool) → (ℕ → g.carrier) → (ℕ → g.carrier) → ℕ → Option ℕ → Type 0
Best g X d L i None = (z : ℕ) → z < i → X z ≡ true
Best g X d L i (Some y) = Picked g i d X L y

-- A marker that is settled besides others. Assumes nothing.
use Rattle.std.specs.Prelude.{◌≡◌, ℕ, Bool, true}

-- X' is X and y
pub record Settles (X : ℕ → Bool) (y : ℕ) (X' : ℕ → Bool) : Type 0 where
  pub at : X' y ≡ true
  pub other : (z : ℕ) → ¬ (z ≡ y) → X' z ≡ X z

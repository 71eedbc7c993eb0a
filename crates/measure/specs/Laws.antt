-- The laws of a measure, over those of its group. Assumes nothing.
use Rattle.std.specs.Prelude.{◌≡◌, ℕ, ◌+◌, ◌≤◌, Bool, true}
use Rattle.measure.specs.Group.{OrderedGroup, Lt}
use Rattle.measure.specs.declared.Amount.{Amount}

pub record MeasureLaws (group : OrderedGroup) (admits : Amount → Bool) (within : ℕ → Amount → Type 0) (value : Amount → group.carrier) (zero : Amount) : Type 0 where
  pub zero_within : within 0 zero
  pub zero_admitted : admits zero ≡ true
  pub zero_neutral : value zero ≡ group.neutral
  pub wider : (k : ℕ) (a : Amount) → within k a → within (k + 1) a
  pub single : (a : Amount) → admits a ≡ true → within 1 a
  -- some amount above zero is admitted
  pub positive : (a : Amount) × (admits a ≡ true) × Lt group group.neutral (value a)
  -- amounts that denote one element are the same record
  pub faithful : (a b : Amount) → within 256 a → within 256 b → value a ≡ value b → a ≡ b
  -- each sum that is not too large has an amount
  pub sums : (i j : ℕ) (a b : Amount) → i + j ≤ 256 → within i a → within j b → (r : Amount) × within (i + j) r × (value r ≡ group.plus (value a) (value b))

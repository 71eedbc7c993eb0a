-- Rows read as functions of the marker, and climbs by their parents. Assumes nothing.
use Rattle.std.specs.Prelude.{◌≡◌, ℕ, ◌<◌, ◌≤◌, List, pos, slice_index_or}
use Rattle.measure.specs.declared.Amount.{Amount}
pub use Rattle.graph.specs.Buffer.{over_front}
use Rattle.graph.specs.Tree.{climb}
use Rattle.table.specs.declared.row.Row.{Row}

-- what an array of rows reads as past its end
abbrev pub no_row : Row
no_row = record { depth = record { mm = pos 0; marks = pos 0 }; parent = 0 }

abbrev pub up : List Row → ℕ → ℕ
up rows m = (slice_index_or rows m no_row).parent

abbrev pub deep : List Row → ℕ → Amount
deep rows m = (slice_index_or rows m no_row).depth

-- k climbs, and no fewer, lead from a to b
pub record FirstClimb (p : ℕ → ℕ) (k a b : ℕ) : Type 0 where
  pub there : climb p k a ≡ b
  pub before : (i : ℕ) → i < k → ¬ (climb p i a ≡ b)

-- the parents lead from a to b by markers below 64, and all of them have room
pub record Leads (p : ℕ → ℕ) (a b room : ℕ) : Type 0 where
  pub steps : ℕ
  pub first : FirstClimb p steps a b
  pub inside : (i : ℕ) → i ≤ steps → climb p i a < 64
  pub short : steps < 64
  pub fits : steps < room

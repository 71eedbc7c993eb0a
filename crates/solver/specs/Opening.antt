-- What opening checks, and what it finds. Assumes nothing.
use Rattle.std.specs.Prelude.{◌≡◌, ℕ, List, length, Some, None, Ok, Err, Option, Result}
use Rattle.measure.specs.declared.Amount.{Amount}
use Rattle.measure.specs.declared.Measure.{Ghosts as MeasureGhosts}
use Rattle.measure.specs.Group.{OrderedGroup, Lt}
use Rattle.graph.specs.Graph.{Cycle, Weight}
use Rattle.table.specs.declared.table.DepthTable.{DepthTable}
use Rattle.law.specs.Calls.{over_front}
use Rattle.law.specs.Standing.{bounds_of, Ties}
use Rattle.law.specs.declared.call.Refusal.{Refusal}
use Rattle.solver.specs.Suits.{TableSuits}

abbrev pub as_result : Option Refusal → Result (Unit {0}) Refusal
as_result (Some why) = Err why
as_result None = Ok tt

-- a cycle of the weights w that adds up to less than zero stands at the front of the buffer
pub record Witness (g : OrderedGroup) (n : ℕ) (w : Weight g) (before after : List ℕ) (size : ℕ) : Type 0 where
  pub markers : List ℕ
  pub sum : g.carrier
  pub cycle : Cycle g n w markers sum
  pub below : Lt g sum g.neutral
  pub counted : size ≡ length markers
  pub buffer : after ≡ over_front markers before

module _ {M : Type 0} (μ : MeasureGhosts M) (total : Amount) where
  -- what comes of solving the ties t
  abbrev pub Solves : ℕ → Ties → List ℕ → List ℕ → Result DepthTable ℕ → Type 0
  Solves n t before after (Ok table) = TableSuits μ total n t table × (after ≡ before)
  Solves n t before after (Err size) = Witness μ.group n (bounds_of μ total t) before after size

-- One weight is put, replaced or taken away. Assumes nothing.
use Rattle.std.specs.Prelude.{◌≡◌, ℕ, List, Some, None, Ok, Err, Option, Result}
use Rattle.measure.specs.declared.Amount.{Amount}
use Rattle.measure.specs.declared.Measure as measure
use Rattle.graph.specs.declared.Graph as graph
use Rattle.graph.specs.Graph.{Weight}
use Rattle.graph.specs.Theorems.{Solved}
use Rattle.graph.specs.Weights.{valued}
use Rattle.table.specs.declared.row.Row.{Row}
use Rattle.table.specs.Climb.{up as parents_of}
use Rattle.table.specs.declared.table.DepthTable.{DepthTable}
use Rattle.update.specs.declared.work.Contradiction.{Contradiction}
use Rattle.update.specs.Reading.{depth}

abbrev pub NoContradiction : Result (Option DepthTable) Contradiction → Type 0
NoContradiction (Ok _) = Unit {0}
NoContradiction (Err _) = ⊥

module _ {M : Type 0} (μ : measure.Ghosts M) where
  -- the amount is no more than what was, if anything was
  abbrev pub NoMore : Amount → Option Amount → Type 0
  NoMore w None = Unit {0}
  NoMore w (Some v) = μ.group.le (μ.value w) (μ.value v)

  -- the new amount, if there is one, is no less than what was
  abbrev pub NoLess : Option Amount → Option Amount → Type 0
  NoLess new before = (w : Amount) → new ≡ Some w → (v : Amount) × (before ≡ Some v) × μ.group.le (μ.value v) (μ.value w)

  -- the amounts of all pairs as weights
  abbrev pub weights_of : (ℕ → ℕ → Option Amount) → Weight μ.group
  weights_of t a b = valued μ.value (t a b)

-- the rows are a shortest-path tree of the amounts `was`, which are the graph's but at the pair a b
pub record ChangedAt {G M : Type 0} (s : graph.Ghosts G) (μ : measure.Ghosts M) (x : G) (n : ℕ) (rows : List Row) (a b : ℕ) (before : Option Amount) : Type 0 where
  pub was : ℕ → ℕ → Option Amount
  pub solved : Solved μ.group n (weights_of μ was) (depth μ rows) (parents_of rows)
  pub at : was a b ≡ before
  pub other : (u v : ℕ) → ¬ ((u ≡ a) × (v ≡ b)) → s.weight x u v ≡ was u v
  pub small : (w : Amount) → before ≡ Some w → μ.within 1 w

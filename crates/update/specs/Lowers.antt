-- What comes of an edge that falls. Assumes nothing.
use Rattle.std.specs.Prelude.{◌≡◌, ℕ, List, Some, None, Ok, Err, Option, Result}
use Rattle.measure.specs.declared.Amount.{Amount}
use Rattle.measure.specs.declared.Measure as measure
use Rattle.graph.specs.Graph.{Weight}
use Rattle.graph.specs.Theorems.{Solved}
use Rattle.table.specs.declared.row.Row.{Row}
use Rattle.table.specs.declared.table.DepthTable.{DepthTable}
use Rattle.table.specs.Climb.{up as parents_of}
use Rattle.update.specs.declared.work.Contradiction.{Contradiction}
use Rattle.update.specs.Reading.{depth, Deep}
use Rattle.update.specs.Lowering.{NegativeCycle}

-- b is deeper than an edge of w from a allows
abbrev pub Deeper : {M : Type 0} → measure.Ghosts M → List Row → ℕ → ℕ → Amount → Type 0
Deeper μ rows a b w = ¬ μ.group.le (depth μ rows b) (μ.group.plus (depth μ rows a) (μ.value w))

module _ {M : Type 0} (μ : measure.Ghosts M) (n : ℕ) (w : Weight μ.group) where
  -- a table that solves the graph, with depths that are not too large
  pub record Solution (t : DepthTable) : Type 0 where
    pub markers : t.n ≡ n
    pub solved : Solved μ.group n w (depth μ t.rows) (parents_of t.rows)
    pub depths : Deep μ n 63 t.rows

  module _ (a b : ℕ) where
    -- a new table, or a contradiction
    abbrev pub Falling : Result DepthTable Contradiction → Type 0
    Falling (Ok t) = Solution t
    Falling (Err v) = NegativeCycle μ.group n w (parents_of v.rows) a b

    -- the old rows, a new table, or a contradiction
    abbrev pub Lowers : List Row → Result (Option DepthTable) Contradiction → Type 0
    Lowers rows (Ok None) = Solved μ.group n w (depth μ rows) (parents_of rows)
    Lowers rows (Ok (Some t)) = Solution t
    Lowers rows (Err v) = NegativeCycle μ.group n w (parents_of v.rows) a b

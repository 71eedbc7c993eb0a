-- A graph and a table of its markers. Assumes nothing.
use Rattle.std.specs.Prelude.{◌≡◌}
use Rattle.measure.specs.declared.Measure as measure
use Rattle.graph.specs.declared.Graph as graph
use Rattle.graph.specs.Weights.{Usable}
use Rattle.table.specs.declared.table.DepthTable.{DepthTable}
use Rattle.update.specs.Reading.{Deep}

pub record Tabled (G : Type 0) : Type 0 where
  pub graph : G
  pub table : DepthTable

-- the graph can be solved, and the table has a row for each marker, with a depth that is not too large
pub record Ready {G M : Type 0} (s : graph.Ghosts G) (μ : measure.Ghosts M) (b : Tabled G) : Type 0 where
  pub graph : Usable s μ b.graph
  pub same : b.table.n ≡ s.count b.graph
  pub depths : Deep μ b.table.n 63 b.table.rows

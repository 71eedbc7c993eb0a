-- The work before weights rise: the markers below b start from the datum, the others are done. Assumes nothing.
use Rattle.std.specs.Prelude.{◌≡◌, ℕ, true, false, ◌⊎◌, List, Some, ◌≢◌}
use Rattle.measure.specs.Group.{OrderedGroup}
use Rattle.graph.specs.Graph.{Weight}
use Rattle.graph.specs.Tree.{climb}
use Rattle.graph.specs.Theorems.{Solved}
use Rattle.graph.specs.declared.Graph as graph
use Rattle.graph.specs.Change.{Raised}
use Rattle.table.specs.declared.row.Row.{Row}
use Rattle.table.specs.Climb.{deep, up as parents_of}
use Rattle.update.specs.declared.work.Work.{Work}
use Rattle.update.specs.Reading.{flag}

module _ {G : Type 0} (s : graph.Ghosts G) (x : G) where
  module _ (rows : List Row) (b : ℕ) where
    -- the path to z passes b
    pub record Hit (v : Work) (z : ℕ) : Type 0 where
      pub passes : (k : ℕ) × (climb (parents_of rows) k z ≡ b)
      pub done : flag v.done z ≡ false
      pub depth : s.weight x 0 z ≡ Some (deep v.rows z)
      pub parent : parents_of v.rows z ≡ 0

    pub record Spared (v : Work) (z : ℕ) : Type 0 where
      pub apart : (k : ℕ) → climb (parents_of rows) k z ≢ b
      pub done : flag v.done z ≡ true
      pub depth : deep v.rows z ≡ deep rows z
      pub parent : parents_of v.rows z ≡ parents_of rows z

    abbrev pub Parted : Work → ℕ → Type 0
    Parted v z = Hit v z ⊎ Spared v z

-- d and p are a shortest-path tree before edges to b rose
pub record Risen (g : OrderedGroup) (n : ℕ) (w' : Weight g) (b : ℕ) (d : ℕ → g.carrier) (p : ℕ → ℕ) : Type 0 where
  pub was : Weight g
  pub solved : Solved g n was d p
  pub raised : Raised g n was w'
  pub other : (x y : ℕ) → ¬ (y ≡ b) → w' x y ≡ was x y

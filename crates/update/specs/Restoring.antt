-- Paths that still add up to their depths. Assumes nothing.
use Rattle.std.specs.Prelude.{◌≡◌, ℕ, ◌<◌}
use Rattle.measure.specs.Group.{OrderedGroup}
use Rattle.graph.specs.Graph.{Weight, Edge}
use Rattle.graph.specs.Tree.{climb}

module _ (g : OrderedGroup) (n : ℕ) (w : Weight g) (L : ℕ → g.carrier) where
  -- the depth of z is that of x and the edge from x to z
  abbrev pub TightEdge : ℕ → ℕ → Type 0
  TightEdge x z = (v : g.carrier) × Edge g n w x z v × (L z ≡ g.plus (L x) v)

  -- each edge of the path to m by the parents p is tight
  abbrev pub Stands : (ℕ → ℕ) → ℕ → Type 0
  Stands p m = (i : ℕ) → 0 < climb p i m → TightEdge (p (climb p i m)) (climb p i m)

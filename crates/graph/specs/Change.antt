-- How weights may change. Assumes nothing.
use Rattle.std.specs.Prelude.{◌≡◌, ℕ}
use Rattle.std.proofs.Math.Option.{some}
use Rattle.measure.specs.Group.{OrderedGroup}
use Rattle.graph.specs.Graph.{Edge, Weight}

-- w' is w, but that the weight of the pair a b is now c, which is no more than it was
pub record Lowered (g : OrderedGroup) (w w' : Weight g) (a b : ℕ) (c : g.carrier) : Type 0 where
  pub at : w' a b ≡ some c
  pub less : (c' : g.carrier) → w a b ≡ some c' → g.le c c'
  pub other : (x y : ℕ) → ¬ ((x ≡ a) × (y ≡ b)) → w' x y ≡ w x y

-- each edge of w' was an edge of w, of no more weight
abbrev pub Raised : (g : OrderedGroup) → ℕ → Weight g → Weight g → Type 0
Raised g n w w' = (x y : ℕ) (c : g.carrier) → Edge g n w' x y c → (c' : g.carrier) × Edge g n w x y c' × g.le c' c

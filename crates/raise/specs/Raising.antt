-- The labels and parents while a weight rises. Assumes nothing.
use Rattle.std.specs.Prelude.{◌≡◌, ℕ, ◌<◌, Bool, true, false}
use Rattle.measure.specs.Group.{OrderedGroup}
use Rattle.graph.specs.Graph.{Weight, Edge, Fits}
use Rattle.graph.specs.Tree.{Tree}
use Rattle.graph.proofs.Relabel.{Relabel}
use Rattle.update.specs.Restoring.{TightEdge}

module _ (g : OrderedGroup) (n : ℕ) (w : Weight g) (d : ℕ → g.carrier) (p : ℕ → ℕ) (K : ℕ → Bool) where
  -- the paths by p to the markers of K stand, and d fits
  pub record Rises : Type 0 where
    pub fits : Fits g n w d
    pub tree : Tree n p
    pub root : K 0 ≡ true
    pub up : (z : ℕ) → z < n → K z ≡ true → K (p z) ≡ true
    pub tight : (z : ℕ) → 0 < z → z < n → K z ≡ true → TightEdge g n w d (p z) z

  -- the markers of K are as they were, each other hangs on one of them, and the edges from those below i were relaxed
  pub record Gathered (i : ℕ) (L : ℕ → g.carrier) (q : ℕ → ℕ) : Type 0 where
    pub stays : (z : ℕ) → z < n → K z ≡ true → (L z ≡ d z) × (q z ≡ p z)
    pub hangs : (z : ℕ) → z < n → K z ≡ false → (K (q z) ≡ true) × TightEdge g n w L (q z) z
    pub most : (x y : ℕ) (c : g.carrier) → x < i → K x ≡ true → K y ≡ false → Edge g n w x y c → g.le (L y) (g.plus (L x) c)

  -- once the markers of X are settled
  pub record Spreading (X : ℕ → Bool) (L : ℕ → g.carrier) (q : ℕ → ℕ) : Type 0 where
    pub turns : ℕ
    pub turn : ℕ → ℕ
    pub labels : Relabel g n w d X L
    pub stays : (z : ℕ) → z < n → K z ≡ true → (X z ≡ true) × (L z ≡ d z) × (q z ≡ p z)
    pub hangs : (z : ℕ) → z < n → K z ≡ false → (X (q z) ≡ true) × TightEdge g n w L (q z) z × (X z ≡ true → turn (q z) < turn z)
    pub before : (z : ℕ) → z < n → X z ≡ true → turn z < turns

-- once the markers of X are settled, for some markers whose paths stand
abbrev pub Begun : (g : OrderedGroup) → ℕ → Weight g → (ℕ → g.carrier) → (ℕ → ℕ) → (ℕ → Bool) → (ℕ → g.carrier) → (ℕ → ℕ) → Type 0
Begun g n w d p X L q = (K : ℕ → Bool) × Rises g n w d p K × Spreading g n w d p K X L q

-- What happens to the distances when a weight rises: the old depths still fit, the markers whose way is not hit keep
-- theirs, and the others are settled one after another. Assumes nothing.
use Rattle.std.proofs.Common.{◌≡◌, ℕ, ◌<◌, Bool, true, false}
use Rattle.measure.specs.Group.{OrderedGroup}
use Rattle.graph.specs.Change.{Raised}
use Rattle.graph.specs.Graph.{Weight, Edge, Fits}
use Rattle.graph.specs.Tree.{Tree}
use Rattle.graph.proofs.Relabel.{Relabel}

-- depths that fit still fit
abbrev pub RaisedFits : OrderedGroup → Type 0
RaisedFits g = (n : ℕ) (w w' : Weight g) (d : ℕ → g.carrier) → Raised g n w w' → Fits g n w d → Fits g n w' d

-- the markers of X keep their depths, and each other has the least that an edge from X gives
pub record Started (g : OrderedGroup) (n : ℕ) (w : Weight g) (d : ℕ → g.carrier) (X : ℕ → Bool) (L : ℕ → g.carrier) : Type 0 where
  pub kept : (x : ℕ) → x < n → X x ≡ true → L x ≡ d x
  pub most : (x y : ℕ) (c : g.carrier) → X x ≡ true → X y ≡ false → Edge g n w x y c → g.le (L y) (g.plus (d x) c)
  pub comes : (y : ℕ) → y < n → X y ≡ false → (x : ℕ) × (c : g.carrier) × (X x ≡ true) × Edge g n w x y c × (L y ≡ g.plus (d x) c)

abbrev pub RaiseStarts : OrderedGroup → Type 0
RaiseStarts g =
    (n : ℕ) (w : Weight g) (d : ℕ → g.carrier) (X : ℕ → Bool) (L : ℕ → g.carrier)
    → Fits g n w d → Started g n w d X L → Relabel g n w d X L

-- once all are settled, the labels fit
abbrev pub RaiseEnds : OrderedGroup → Type 0
RaiseEnds g =
    (n : ℕ) (w : Weight g) (d : ℕ → g.carrier) (X : ℕ → Bool) (L : ℕ → g.carrier)
    → Relabel g n w d X L → ((x : ℕ) → x < n → X x ≡ true) → L 0 ≡ g.neutral → Fits g n w L

-- parents of lower rank make a tree
abbrev pub Ranked : Type 0
Ranked =
    (n : ℕ) (p rank : ℕ → ℕ) → p 0 ≡ 0 → ((m : ℕ) → m < n → p m < n)
    → ((m : ℕ) → 0 < m → m < n → rank (p m) < rank m) → Tree n p

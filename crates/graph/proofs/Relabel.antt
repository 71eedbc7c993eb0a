-- What happens to the distances when one weight falls: labels that start as the old depths and are lowered, one marker
-- settled after another. Assumes nothing.
use Rattle.graph.specs.Settling.{Settles}
use Rattle.std.proofs.Common.{◌≡◌, ℕ, ◌<◌, Bool, true, false, ◌⊎◌}
use Rattle.measure.specs.Group.{OrderedGroup}
use Rattle.graph.specs.Change.{Lowered}
use Rattle.graph.specs.Graph.{Weight, Edge, Fits}

-- depths that fit still fit if they keep the edge that is new
abbrev pub Unmoved : OrderedGroup → Type 0
Unmoved g =
    (n : ℕ) (w w' : Weight g) (a b : ℕ) (c : g.carrier) (d : ℕ → g.carrier) → Lowered g w w' a b c → Fits g n w d
    → g.le (d b) (g.plus (d a) c) → Fits g n w' d

module _ (g : OrderedGroup) (n : ℕ) (d : ℕ → g.carrier) where
  -- no label is above the old depth
  abbrev pub Below : (ℕ → g.carrier) → Type 0
  Below L = (y : ℕ) → y < n → g.le (L y) (d y)

  -- y is the marker to settle next: none that is not settled has fallen further
  pub record Picked (X : ℕ → Bool) (L : ℕ → g.carrier) (y : ℕ) : Type 0 where
    pub inside : y < n
    pub unsettled : X y ≡ false
    pub first : (z : ℕ) → z < n → X z ≡ false → g.le (g.plus (L y) (d z)) (g.plus (L z) (d y))

module _ (g : OrderedGroup) (n : ℕ) (w : Weight g) (d : ℕ → g.carrier) where
  -- the labels as they stand once the markers of X are settled
  pub record Relabel (X : ℕ → Bool) (L : ℕ → g.carrier) : Type 0 where
    pub done : (x y : ℕ) (c : g.carrier) → X x ≡ true → Edge g n w x y c → g.le (L y) (g.plus (L x) c)
    -- a settled label has fallen at least as far as one that is not settled
    pub ahead : (x y : ℕ) → x < n → y < n → X x ≡ true → X y ≡ false → g.le (g.plus (L x) (d y)) (g.plus (L y) (d x))

  -- the labels after y, of those settled none has changed
  pub record Relaxed (X' : ℕ → Bool) (L : ℕ → g.carrier) (y : ℕ) (L' : ℕ → g.carrier) : Type 0 where
    pub kept : (z : ℕ) → X' z ≡ true → L' z ≡ L z
    pub lower : (z : ℕ) → z < n → g.le (L' z) (L z)
    pub reached : (z : ℕ) (c : g.carrier) → X' z ≡ false → Edge g n w y z c → g.le (L' z) (g.plus (L y) c)
    pub either : (z : ℕ) → z < n → (L' z ≡ L z) ⊎ ((c : g.carrier) × Edge g n w y z c × (L' z ≡ g.plus (L y) c))

-- a settled label need not be lowered again
abbrev pub SettledStays : OrderedGroup → Type 0
SettledStays g =
    (n : ℕ) (w : Weight g) (d : ℕ → g.carrier) (X : ℕ → Bool) (L : ℕ → g.carrier) (y : ℕ)
    → Fits g n w d → Relabel g n w d X L → Picked g n d X L y
    → (x : ℕ) (c : g.carrier) → X x ≡ true → Edge g n w y x c → g.le (L x) (g.plus (L y) c)

-- to settle one more marker keeps the labels as they have to be
abbrev pub SettlesOne : OrderedGroup → Type 0
SettlesOne g =
    (n : ℕ) (w : Weight g) (d : ℕ → g.carrier) (X X' : ℕ → Bool) (L L' : ℕ → g.carrier) (y : ℕ)
    → Fits g n w d → Relabel g n w d X L → Picked g n d X L y → Settles X y X' → Relaxed g n w d X' L y L'
    → Relabel g n w d X' L'

-- where no marker that is not settled has fallen, nor the datum or a, the labels fit the new weights
abbrev pub Relabelled : OrderedGroup → Type 0
Relabelled g =
    (n : ℕ) (w w' : Weight g) (a b : ℕ) (c : g.carrier) (d : ℕ → g.carrier) (X : ℕ → Bool) (L : ℕ → g.carrier)
    → a < n → 0 < n → Lowered g w w' a b c → Fits g n w d → Relabel g n w d X L → Below g n d L
    → ((z : ℕ) → z < n → X z ≡ false → g.le (d z) (L z))
    → g.le (d 0) (L 0) → g.le (d a) (L a) → g.le (L b) (g.plus (d a) c)
    → Fits g n w' L

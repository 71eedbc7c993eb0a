-- Graphs on the markers 0 .. n-1, with elements of an ordered group as weights; marker 0 is the datum. Assumes nothing.
use Rattle.std.specs.Prelude.{◌≡◌, ℕ, ◌<◌, ◌⊎◌, List, [], ◌∷◌, ◌++◌}
use Rattle.std.proofs.Math.Option.{Option, some}
use Rattle.measure.specs.Group.{OrderedGroup}

-- x stands in the list
abbrev pub In : ℕ → List ℕ → Type 0
In x [] = ⊥
In x (y ∷ ys) = (x ≡ y) ⊎ In x ys

-- no marker stands twice in the list
abbrev pub Different : List ℕ → Type 0
Different [] = Unit {0}
Different (x ∷ xs) = (¬ In x xs) × Different xs

-- the weight of each ordered pair that is joined
abbrev pub Weight : OrderedGroup → Type 0
Weight g = ℕ → ℕ → Option g.carrier

module _ (g : OrderedGroup) (n : ℕ) (w : Weight g) where
  -- an edge from a to b of weight c
  abbrev pub Edge : ℕ → ℕ → g.carrier → Type 0
  Edge a b c = (a < n) × (b < n) × (w a b ≡ some c)

  -- the markers ms, after x, lead from x to y along edges, and the weights add up to s
  abbrev pub Walk : ℕ → List ℕ → ℕ → g.carrier → Type 0
  Walk x [] y s = (x ≡ y) × (s ≡ g.neutral)
  Walk x (m ∷ ms) y s = (c : g.carrier) × (r : g.carrier) × Edge x m c × Walk m ms y r × (s ≡ g.plus c r)

  -- a list of different markers, each joined to the next, from the datum to m, whose weights add up to s
  abbrev pub PathTo : List ℕ → ℕ → g.carrier → Type 0
  PathTo [] m s = ⊥
  PathTo (x ∷ ms) m s = (x ≡ 0) × Walk x ms m s × Different (x ∷ ms)

  -- at least two different markers, each joined to the next and the last to the first
  abbrev pub Cycle : List ℕ → g.carrier → Type 0
  Cycle [] s = ⊥
  Cycle (x ∷ []) s = ⊥
  Cycle (x ∷ y ∷ ms) s = Different (x ∷ y ∷ ms) × Walk x (y ∷ (ms ++ (x ∷ []))) x s

  -- depths that keep every edge
  pub record Fits (d : ℕ → g.carrier) : Type 0 where
    pub datum : d 0 ≡ g.neutral
    pub keeps : (a b : ℕ) (c : g.carrier) → Edge a b c → g.le (d b) (g.plus (d a) c)

  -- x is the least sum of a walk from the datum to m
  pub record Distance (m : ℕ) (x : g.carrier) : Type 0 where
    pub markers : List ℕ
    pub walked : Walk 0 markers m x
    pub least : (ms : List ℕ) (s : g.carrier) → Walk 0 ms m s → g.le x s

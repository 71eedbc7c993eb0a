-- The parents when one weight falls: a marker whose label falls takes the marker that lowered it for its parent.
-- Assumes nothing.
use Rattle.std.proofs.Common.{◌≡◌, ℕ, suc, ◌<◌, ◌≤◌, Bool, true, false, ◌⊎◌, ◌∷◌, ◌++◌}
use Rattle.measure.specs.Group.{OrderedGroup}
use Rattle.graph.specs.Graph.{Weight, Edge, Fits, Cycle}
use Rattle.graph.specs.Tree.{climb, way, Tree, Tight}
use Rattle.graph.specs.Change.{Lowered}
use Rattle.graph.proofs.Relabel.{Relabel, Below}
use Rattle.graph.specs.Settling.{Settles}

-- y was settled in turn t
pub record Turned (t : ℕ) (y : ℕ) (turn turn' : ℕ → ℕ) : Type 0 where
  pub at : turn' y ≡ t
  pub other : (z : ℕ) → ¬ (z ≡ y) → turn' z ≡ turn z

module _ (g : OrderedGroup) (n : ℕ) (w : Weight g) (a b : ℕ) (c : g.carrier) (d : ℕ → g.carrier) (p : ℕ → ℕ) where
  -- where the label and the parent of z come from; `turn` counts when a marker was settled
  pub data Born (X : ℕ → Bool) (L : ℕ → g.carrier) (q turn : ℕ → ℕ) (z : ℕ) : Type 0 where
    same : q z ≡ p z → L z ≡ d z → Born X L q turn z
    first : z ≡ b → q z ≡ a → L z ≡ g.plus (d a) c → ¬ g.le (d z) (L z) → Born X L q turn z
    later : (v : g.carrier) → X (q z) ≡ true → (X z ≡ true → turn (q z) < turn z) → Edge g n w (q z) z v → L z ≡ g.plus (L (q z)) v
        → ¬ g.le (d z) (L z) → Born X L q turn z

  -- the labels and the parents once the markers of X are settled, in t turns
  pub record Grown (t : ℕ) (X : ℕ → Bool) (L : ℕ → g.carrier) (q turn : ℕ → ℕ) : Type 0 where
    pub turns : (z : ℕ) → z < n → X z ≡ true → turn z < t
    pub born : (z : ℕ) → z < n → Born X L q turn z

  -- the parents after y
  abbrev pub Regrafted : (ℕ → Bool) → (ℕ → g.carrier) → ℕ → (ℕ → g.carrier) → (ℕ → ℕ) → (ℕ → ℕ) → Type 0
  Regrafted X' L y L' q q' =
      (z : ℕ) → z < n → ((L' z ≡ L z) × (q' z ≡ q z))
      ⊎ ((X' z ≡ false) × (¬ g.le (L z) (L' z)) × (q' z ≡ y) × (v : g.carrier) × Edge g n w y z v × (L' z ≡ g.plus (L y) v))

  -- no marker that is not settled has fallen, nor the datum or a, and b has
  pub record Ended (w' : Weight g) (t : ℕ) (X : ℕ → Bool) (L : ℕ → g.carrier) (q turn : ℕ → ℕ) : Type 0 where
    pub low : Lowered g w w' a b c
    pub a_inside : a < n
    pub b_inside : b < n
    pub fits : Fits g n w d
    pub tree : Tree n p
    pub tight : Tight g n w d p
    pub labels : Relabel g n w d X L
    pub below : Below g n d L
    pub grown : Grown t X L q turn
    pub rest : (z : ℕ) → z < n → X z ≡ false → g.le (d z) (L z)
    pub at_datum : g.le (d 0) (L 0)
    pub at_a : g.le (d a) (L a)
    pub at_b : g.le (L b) (g.plus (d a) c)
    pub fell : ¬ g.le (d b) (L b)

abbrev pub GrowsOne : OrderedGroup → Type 0
GrowsOne g =
    (n : ℕ) (w : Weight g) (a b : ℕ) (c : g.carrier) (d : ℕ → g.carrier) (p : ℕ → ℕ)
    (t : ℕ) (X X' : ℕ → Bool) (L L' : ℕ → g.carrier) (q q' turn turn' : ℕ → ℕ) (y : ℕ)
    → y < n → X y ≡ false → Below g n d L
    → Grown g n w a b c d p t X L q turn → Settles X y X' → ((z : ℕ) → X' z ≡ true → L' z ≡ L z)
    → Regrafted g n w a b c d p X' L y L' q q' → Turned t y turn turn'
    → Grown g n w a b c d p (suc t) X' L' q' turn'

-- what certifies the labels as the new distances
abbrev pub Regrown : OrderedGroup → Type 0
Regrown g =
    (n : ℕ) (w w' : Weight g) (a b : ℕ) (c : g.carrier) (d : ℕ → g.carrier) (p : ℕ → ℕ)
    (t : ℕ) (X : ℕ → Bool) (L : ℕ → g.carrier) (q turn : ℕ → ℕ)
    → Ended g n w a b c d p w' t X L q turn
    → Fits g n w' L × Tree n q × Tight g n w' L q

-- where the label of an ancestor z of a would fall by an edge from y, the new parents from b to y and the old ones from z
-- to a are a cycle that adds up to below zero
abbrev pub Clash : OrderedGroup → Type 0
Clash g =
    (n : ℕ) (w w' : Weight g) (a b : ℕ) (c : g.carrier) (d : ℕ → g.carrier) (p : ℕ → ℕ)
    (t : ℕ) (X : ℕ → Bool) (L : ℕ → g.carrier) (q turn : ℕ → ℕ) (y : ℕ) (v : g.carrier) (j : ℕ)
    → Lowered g w w' a b c → a < n → b < n → Fits g n w d → Tree n p → Tight g n w d p
    → Grown g n w a b c d p t X L q turn → X y ≡ true → ¬ g.le (d y) (L y)
    → Edge g n w y (climb p j a) v → ¬ g.le (d (climb p j a)) (g.plus (L y) v)
    → ((i : ℕ) → i < j → 0 < climb p i a) → ((i : ℕ) → i ≤ j → g.le (d (climb p i a)) (L (climb p i a)))
    → (k : ℕ) × (s : g.carrier) × (climb q k y ≡ b) × Cycle g n w' (b ∷ (way q k y ++ (climb p j a ∷ way p j a))) s × (¬ g.le g.neutral s)

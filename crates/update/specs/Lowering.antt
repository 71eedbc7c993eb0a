-- The labels and parents while one weight falls, and what comes of it. Assumes nothing.
use Rattle.std.specs.Prelude.{◌≡◌, ℕ, zero, suc, ◌+◌, ◌<◌, Bool, true, false, cond, ◌∷◌, Ok, Err, Result}
use Rattle.measure.specs.Group.{OrderedGroup}
use Rattle.measure.specs.declared.Measure as measure
use Rattle.graph.specs.Graph.{Weight, Cycle, Fits}
use Rattle.graph.specs.Tree.{climb, way, Tree, Tight}
use Rattle.graph.specs.Theorems.{Solved}
use Rattle.graph.specs.Change.{Lowered}
use Rattle.graph.proofs.Relabel.{Relabel, Below}
use Rattle.graph.proofs.Regrow.{Grown}
use Rattle.table.specs.Climb.{up as parents_of}
use Rattle.update.specs.declared.work.Contradiction.{Contradiction}
use Rattle.update.specs.declared.work.Work.{Work}
use Rattle.update.specs.Reading.{Deep, depth, flag}

-- how many of the first n are settled
abbrev pub settled : (ℕ → Bool) → ℕ → ℕ
settled X zero = 0
settled X (suc n) = cond (X n) (suc (settled X n)) (settled X n)

-- U holds m and its ancestors
pub record Ancestors (p : ℕ → ℕ) (m : ℕ) (U : ℕ → Bool) : Type 0 where
  pub all : (i : ℕ) → U (climb p i m) ≡ true
  pub only : (z : ℕ) → U z ≡ true → (j : ℕ) × (climb p j m ≡ z) × ((i : ℕ) → i < j → 0 < climb p i m)

module _ (g : OrderedGroup) (n : ℕ) (w w' : Weight g) (a b : ℕ) (c : g.carrier) (d : ℕ → g.carrier) (p : ℕ → ℕ) (U : ℕ → Bool) where
  -- d and p are a shortest-path tree for w; the edge from a to b falls to c, and b can be lowered by it
  pub record Falls : Type 0 where
    pub low : Lowered g w w' a b c
    pub a_inside : a < n
    pub b_inside : b < n
    pub fits : Fits g n w d
    pub tree : Tree n p
    pub tight : Tight g n w d p
    pub above : Ancestors p a U
    pub apart : U b ≡ false
    pub falls : ¬ g.le (d b) (g.plus (d a) c)

  -- the labels and parents once the markers of X are settled
  pub record Growing (X : ℕ → Bool) (L : ℕ → g.carrier) (q : ℕ → ℕ) : Type 0 where
    pub turns : ℕ
    pub turn : ℕ → ℕ
    pub labels : Relabel g n w d X L
    pub below : Below g n d L
    pub grown : Grown g n w a b c d p turns X L q turn
    pub at_b : g.le (L b) (g.plus (d a) c)
    pub stays : (z : ℕ) → z < n → U z ≡ true → (L z ≡ d z) × (q z ≡ p z)

-- the markers from b to a, along the parents, are a cycle that sums to below zero
pub record NegativeCycle (g : OrderedGroup) (n : ℕ) (w : Weight g) (q : ℕ → ℕ) (a b : ℕ) : Type 0 where
  pub up : ℕ
  pub sum : g.carrier
  pub first : climb q up a ≡ b
  pub cycle : Cycle g n w (b ∷ way q up a) sum
  pub negative : ¬ g.le g.neutral sum

module _ {M : Type 0} (μ : measure.Ghosts M) (n : ℕ) where
  -- each marker that is settled may make the labels larger by one
  abbrev pub Room : Work → Type 0
  Room v = Deep μ n (64 + settled (flag v.done) n) v.rows

  -- a new shortest-path tree, or a contradiction
  abbrev pub Settlement : Weight μ.group → ℕ → ℕ → Result Work Contradiction → Type 0
  Settlement w a b (Ok v) = Solved μ.group n w (depth μ v.rows) (parents_of v.rows)
  Settlement w a b (Err v) = NegativeCycle μ.group n w (parents_of v.rows) a b

-- d and p are a shortest-path tree before the edge from a to b fell to c
pub record SolvedBefore (g : OrderedGroup) (n : ℕ) (w' : Weight g) (a b : ℕ) (c : g.carrier) (d : ℕ → g.carrier) (p : ℕ → ℕ) : Type 0 where
  pub was : Weight g
  pub solved : Solved g n was d p
  pub low : Lowered g was w' a b c

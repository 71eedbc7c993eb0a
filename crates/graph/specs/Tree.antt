-- Trees by parents, over the markers 0 .. n-1, with the datum 0 for the root. Assumes nothing.
use Rattle.std.specs.Prelude.{◌≡◌, ℕ, zero, suc, ◌-◌, ◌<◌, List, [], ◌∷◌, ◌++◌}
use Rattle.measure.specs.Group.{OrderedGroup}
use Rattle.graph.specs.Graph.{Distance, Edge, PathTo, Weight}

-- the marker that k steps to the parent lead to
abbrev pub climb : (ℕ → ℕ) → ℕ → ℕ → ℕ
climb p zero m = m
climb p (suc k) m = climb p k (p m)

-- the markers after the one that k climbs lead to, on the way down to m
abbrev pub way : (ℕ → ℕ) → ℕ → ℕ → List ℕ
way p zero m = []
way p (suc k) m = way p k (p m) ++ (m ∷ [])

-- the markers after the datum on the way down to m, of k climbs at most
abbrev pub climbed : (ℕ → ℕ) → ℕ → ℕ → List ℕ
climbed p zero m = []
climbed p (suc k) zero = []
climbed p (suc k) (suc m) = climbed p k (p (suc m)) ++ (suc m ∷ [])

-- the path to m by the parents p among n markers, datum first
abbrev pub path_to : (ℕ → ℕ) → ℕ → ℕ → List ℕ
path_to p n m = 0 ∷ climbed p (n - 1) m

-- the parents lead from each marker to the datum, in fewer than n steps
pub record Tree (n : ℕ) (p : ℕ → ℕ) : Type 0 where
  pub root : p 0 ≡ 0
  pub inside : (m : ℕ) → m < n → p m < n
  pub climbs : (m : ℕ) → m < n → climb p (n - 1) m ≡ 0

module _ (g : OrderedGroup) (n : ℕ) (w : Weight g) (d : ℕ → g.carrier) (p : ℕ → ℕ) where
  -- the depth of each marker but the datum is its parent's and the weight of the edge from there
  abbrev pub Tight : Type 0
  Tight = (m : ℕ) → 0 < m → m < n → (c : g.carrier) × Edge g n w (p m) m c × (d m ≡ g.plus (d (p m)) c)

  -- each path of the tree is a path of the graph, and its sum is the distance from the datum
  pub record ShortestPathTree : Type 0 where
    pub tree : Tree n p
    pub paths : (m : ℕ) → m < n → PathTo g n w (path_to p n m) m (d m)
    pub distances : (m : ℕ) → m < n → Distance g n w m (d m)

-- What is proved of graphs and trees. Assumes nothing.
use Rattle.std.specs.Prelude.{◌≡◌, ℕ, ◌<◌, ◌≤◌, List, [], ◌∷◌, length}
use Rattle.measure.specs.Group.{OrderedGroup}
use Rattle.graph.specs.Graph.{Weight, In, Different, Edge, Fits, Walk, Cycle}
use Rattle.graph.specs.Tree.{climb, ShortestPathTree, Tree, Tight}

-- if some depths fit, no closed walk adds up to less than zero
abbrev pub NoNegativeClosedWalk : OrderedGroup → Type 0
NoNegativeClosedWalk g =
    (n : ℕ) (w : Weight g) (d : ℕ → g.carrier) → Fits g n w d
    → (x : ℕ) (ms : List ℕ) (s : g.carrier) → Walk g n w x ms x s → g.le g.neutral s

-- where a cycle adds up to less than zero, no depths fit
abbrev pub NegativeCycleRefutes : OrderedGroup → Type 0
NegativeCycleRefutes g =
    (n : ℕ) (w : Weight g) (ms : List ℕ) (s : g.carrier) → Cycle g n w ms s → ¬ g.le g.neutral s
    → (d : ℕ → g.carrier) → ¬ Fits g n w d

-- what certifies a shortest-path tree: depths that fit, with a tree of tight edges
pub record Solved (g : OrderedGroup) (n : ℕ) (w : Weight g) (d : ℕ → g.carrier) (p : ℕ → ℕ) : Type 0 where
  pub fits : Fits g n w d
  pub tree : Tree n p
  pub tight : Tight g n w d p

-- the depths are then the distances, and the deepest that fit
pub record Certified (g : OrderedGroup) (n : ℕ) (w : Weight g) (d : ℕ → g.carrier) (p : ℕ → ℕ) : Type 0 where
  pub shortest : ShortestPathTree g n w d p
  pub deepest : (m : ℕ) → m < n → (e : ℕ → g.carrier) → Fits g n w e → g.le (e m) (d m)

abbrev pub Certificate : OrderedGroup → Type 0
Certificate g = (n : ℕ) (w : Weight g) (d : ℕ → g.carrier) (p : ℕ → ℕ) → Solved g n w d p → Certified g n w d p

-- a shortest-path tree always has its certificate
abbrev pub Certifiable : OrderedGroup → Type 0
Certifiable g = (n : ℕ) (w : Weight g) (d : ℕ → g.carrier) (p : ℕ → ℕ) → 0 < n → ShortestPathTree g n w d p → Solved g n w d p

-- a list of different numbers below n has n of them at most
abbrev pub Pigeonhole : Type 0
Pigeonhole = (n : ℕ) (xs : List ℕ) → Different xs → ((x : ℕ) → In x xs → x < n) → length xs ≤ n

-- where some number of climbs leads to the datum from each marker, n - 1 do
abbrev pub ShortClimbs : Type 0
ShortClimbs =
    (n : ℕ) (p : ℕ → ℕ) → p 0 ≡ 0 → ((m : ℕ) → m < n → p m < n)
    → ((m : ℕ) → m < n → (k : ℕ) × (climb p k m ≡ 0)) → Tree n p

-- each edge of the walk is tight
abbrev pub TightWalk : (g : OrderedGroup) → ℕ → Weight g → (ℕ → g.carrier) → ℕ → List ℕ → Type 0
TightWalk g n w d x [] = Unit {0}
TightWalk g n w d x (m ∷ ms) = ((c : g.carrier) × Edge g n w x m c × (d m ≡ g.plus (d x) c)) × TightWalk g n w d m ms

-- a walk that adds up to the depth it comes to is tight at each edge
abbrev pub TightPrefixes : OrderedGroup → Type 0
TightPrefixes g =
    (n : ℕ) (w : Weight g) (d : ℕ → g.carrier) → Fits g n w d
    → (m : ℕ) (ms : List ℕ) → Walk g n w 0 ms m (d m) → TightWalk g n w d 0 ms

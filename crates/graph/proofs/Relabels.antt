-- The labels when one weight falls. Assumes nothing.
use Rattle.std.proofs.Common.{◌≡◌, ℕ, zero, suc, ◌<◌, Bool, true, false, ◌⊎◌, List, sym, refl, ap, ◌∙◌, inl, inr, true≢false, arith}
use mathlib.Core.Option.{some}
use native.Mathlib.Decide.{ℕ_discrete}
use Rattle.measure.specs.Group.{OrderedGroup}
use Rattle.graph.specs.Graph.{Weight, Edge, Walk, Fits}
use Rattle.graph.specs.Tree.{climb, way, Tight}
use Rattle.graph.specs.Change.{Lowered}
use Rattle.graph.proofs.Relabel.{Unmoved, Relabel, Picked, Relaxed, SettledStays, SettlesOne, Relabelled}
use Rattle.graph.specs.Settling.{Settles}
use Rattle.graph.proofs.Sums.{stays, ahead_on, self_le}
use Rattle.graph.proofs.Walks.{Smaller, smaller_walk, walk_push}

pub same_pair : (x y a b : ℕ) → ((x ≡ a) × (y ≡ b)) ⊎ (¬ ((x ≡ a) × (y ≡ b)))
same_pair x y a b = at (ℕ_discrete x a) (ℕ_discrete y b)
  where
    at : Dec (x ≡ a) → Dec (y ≡ b) → ((x ≡ a) × (y ≡ b)) ⊎ (¬ ((x ≡ a) × (y ≡ b)))
    at (yes e) (yes k) = inl (e, k)
    at (yes e) (no k) = inr (λ h. k h.1)
    at (no e) k = inr (λ h. e h.0)

pub unmoved : (g : OrderedGroup) → Unmoved g
unmoved g n w w' a b c d low f new = record { datum = f.datum; keeps = λ x y c' edge. at x y c' edge (same_pair x y a b) }
  where
    at : (x y : ℕ) (c' : g.carrier) → Edge g n w' x y c' → ((x ≡ a) × (y ≡ b)) ⊎ (¬ ((x ≡ a) × (y ≡ b))) → g.le (d y) (g.plus (d x) c')
    at x y c' (hx, hy, e) (inl (ex, ey)) = let same : c ≡ c' = cc low.at in rw (ex, ey) (rw same at new)
    at x y c' (hx, hy, e) (inr h) = f.keeps x y c' (hx, hy, sym (low.other x y h) ∙ e)

pub settled_stays : (g : OrderedGroup) → SettledStays g
settled_stays g n w d X L y f inv pick x c s edge =
    stays g (L x) (L y) (d x) (d y) c (inv.ahead x y edge.1 edge.0 s pick.unsettled) (f.keeps y x c edge)

pub not_both : {A : Type 0} (v : Bool) → v ≡ true → v ≡ false → A
not_both v t f = absurd (true≢false (sym t ∙ f))

pub which : (v : Bool) → (v ≡ true) ⊎ (v ≡ false)
which true = inl refl
which false = inr refl

module _ (g : OrderedGroup) (n : ℕ) (w : Weight g) (d : ℕ → g.carrier) (X X' : ℕ → Bool) (L L' : ℕ → g.carrier) (y : ℕ)
    (f : Fits g n w d) (inv : Relabel g n w d X L) (pick : Picked g n d X L y) (sets : Settles X y X') (relax : Relaxed g n w d X' L y L') where
  -- a marker settled now is y or was settled before
  was : (x : ℕ) → X' x ≡ true → (x ≡ y) ⊎ (X x ≡ true)
  was x t = at (ℕ_discrete x y)
    where
      at : Dec (x ≡ y) → (x ≡ y) ⊎ (X x ≡ true)
      at (yes e) = inl e
      at (no h) = inr (sym (sets.other x h) ∙ t)

  was_not : (z : ℕ) → X' z ≡ false → X z ≡ false
  was_not z t = at (ℕ_discrete z y)
    where
      at : Dec (z ≡ y) → X z ≡ false
      at (yes e) = not_both (X' z) (ap X' e ∙ sets.at) t
      at (no h) = sym (sets.other z h) ∙ t

  -- the labels before the step keep the edges of each marker settled now, as the new ones do
  from_y : (z : ℕ) (c : g.carrier) → Edge g n w y z c → g.le (L' z) (g.plus (L y) c)
  from_y z c edge = at (which (X' z))
    where
      old : (z ≡ y) ⊎ (X z ≡ true) → g.le (L z) (g.plus (L y) c)
      old (inl e) = rw e (self_le g (d y) (L y) c (rw e at (f.keeps y z c edge)))
      old (inr s) = settled_stays g n w d X L y f inv pick z c s edge

      at : (X' z ≡ true) ⊎ (X' z ≡ false) → g.le (L' z) (g.plus (L y) c)
      at (inl t) = rw (relax.kept z t) (old (was z t))
      at (inr t) = relax.reached z c t edge

  done : (x z : ℕ) (c : g.carrier) → X' x ≡ true → Edge g n w x z c → g.le (L' z) (g.plus (L' x) c)
  done x z c t edge = rw (relax.kept x t) (at (was x t))
    where
      at : (x ≡ y) ⊎ (X x ≡ true) → g.le (L' z) (g.plus (L x) c)
      at (inl e) = rw e (from_y z c (rw e at edge))
      at (inr s) = g.le_trans _ _ _ (relax.lower z edge.1) (inv.done x z c s edge)

  -- as `ahead`, of y too
  further : (x z : ℕ) → x < n → z < n → X' x ≡ true → X z ≡ false → g.le (g.plus (L x) (d z)) (g.plus (L z) (d x))
  further x z hx hz t u = at (was x t)
    where
      at : (x ≡ y) ⊎ (X x ≡ true) → g.le (g.plus (L x) (d z)) (g.plus (L z) (d x))
      at (inl e) = rw e (pick.first z hz u)
      at (inr s) = inv.ahead x z hx hz s u

  ahead : (x z : ℕ) → x < n → z < n → X' x ≡ true → X' z ≡ false → g.le (g.plus (L' x) (d z)) (g.plus (L' z) (d x))
  ahead x z hx hz t u = rw (relax.kept x t) (at (relax.either z hz))
    where
      at : (L' z ≡ L z) ⊎ ((c : g.carrier) × Edge g n w y z c × (L' z ≡ g.plus (L y) c)) → g.le (g.plus (L x) (d z)) (g.plus (L' z) (d x))
      at (inl e) = rw e (further x z hx hz t (was_not z u))
      at (inr (c, edge, e)) = rw e (ahead_on g (L x) (L y) (d x) (d y) (d z) c (further x y hx pick.inside t pick.unsettled) (f.keeps y z c edge))

pub settles_one : (g : OrderedGroup) → SettlesOne g
settles_one g n w d X X' L L' y f inv pick sets relax = record {
  done = done g n w d X X' L L' y f inv pick sets relax;
  ahead = ahead g n w d X X' L L' y f inv pick sets relax;
}

pub relabelled : (g : OrderedGroup) → Relabelled g
relabelled g n w w' a b c d X L ha h0 low f inv below rest datum at_a new = unmoved g n w w' a b c L low fits (g.le_trans _ _ _ new (g.le_plus (d a) (L a) c at_a))
  where
    keeps : (x y : ℕ) (v : g.carrier) → Edge g n w x y v → (X x ≡ true) ⊎ (X x ≡ false) → g.le (L y) (g.plus (L x) v)
    keeps x y v edge (inl t) = inv.done x y v t edge
    keeps x y v edge (inr u) =
        g.le_trans _ _ _ (below y edge.1) (g.le_trans _ _ _ (f.keeps x y v edge) (g.le_plus (d x) (L x) v (rest x edge.0 u)))

    fits : Fits g n w L
    fits = record { datum = g.le_antisym (L 0) (d 0) (below 0 h0) datum ∙ f.datum; keeps = λ x y v edge. keeps x y v edge (which (X x)) }

-- weights of which one has fallen are smaller
lowered_smaller : (g : OrderedGroup) (w w' : Weight g) (a b : ℕ) (c : g.carrier) → Lowered g w w' a b c → Smaller g w w'
lowered_smaller g w w' a b c low x y v e = by (same_pair x y a b)
  where
    by : ((x ≡ a) × (y ≡ b)) ⊎ (¬ ((x ≡ a) × (y ≡ b))) → (v' : g.carrier) × (w' x y ≡ some v') × g.le v' v
    by (inl (ex, ey)) = (c, rw (ex, ey) low.at, low.less v (rw (ex, ey) at e))
    by (inr h) = (v, low.other x y h ∙ e, g.le_refl v)

pub lowered_walk : (g : OrderedGroup) (n : ℕ) (w w' : Weight g) (a b : ℕ) (c : g.carrier) → Lowered g w w' a b c
    → (x : ℕ) (ms : List ℕ) (y : ℕ) (s : g.carrier) → Walk g n w x ms y s → (s' : g.carrier) × Walk g n w' x ms y s' × g.le s' s
lowered_walk g n w w' a b c low = smaller_walk g n w w' (lowered_smaller g w w' a b c low)

-- from an ancestor down the tree
pub tree_way : (g : OrderedGroup) (n : ℕ) (w : Weight g) (d : ℕ → g.carrier) (p : ℕ → ℕ) → ((m : ℕ) → m < n → p m < n) → Tight g n w d p
    → (k a : ℕ) → a < n → ((i : ℕ) → i < k → 0 < climb p i a)
    → (t : g.carrier) × Walk g n w (climb p k a) (way p k a) a t × (d a ≡ g.plus (d (climb p k a)) t)
tree_way g n w d p inside tight zero a h up = (g.neutral, (refl, refl), sym (g.plus_neutral (d a)))
tree_way g n w d p inside tight (suc k) a h up = joined (tight a (up 0 (omega arith)) h) (tree_way g n w d p inside tight k (p a) (inside a h) (λ i l. up (suc i) (raise i k l)))
  where
    raise : (i k : ℕ) → i < k → suc i < suc k
    raise i k h = omega arith

    joined : (c : g.carrier) × Edge g n w (p a) a c × (d a ≡ g.plus (d (p a)) c)
        → (t : g.carrier) × Walk g n w (climb p k (p a)) (way p k (p a)) (p a) t × (d (p a) ≡ g.plus (d (climb p k (p a))) t)
        → (t : g.carrier) × Walk g n w (climb p k (p a)) (way p (suc k) a) a t × (d a ≡ g.plus (d (climb p k (p a))) t)
    joined (c, edge, e) (t, walk, e') =
        (g.plus t c, walk_push g n w (climb p k (p a)) (way p k (p a)) (p a) t a c walk edge, e ∙ ap (λ v. g.plus v c) e' ∙ g.assoc (d (climb p k (p a))) t c)

pub climb_inside : (n : ℕ) (p : ℕ → ℕ) → ((m : ℕ) → m < n → p m < n) → (k a : ℕ) → a < n → climb p k a < n
climb_inside n p inside zero a h = h
climb_inside n p inside (suc k) a h = climb_inside n p inside k (p a) (inside a h)

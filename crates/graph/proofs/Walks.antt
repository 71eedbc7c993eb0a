-- Walks and depths that fit. Assumes nothing.
use Rattle.std.proofs.Common.{◌≡◌, ℕ, ◌<◌, List, [], ◌∷◌, ◌++◌, sym, refl, ap, ◌∙◌, inl, inr}
use mathlib.Core.Option.{Option, some}
use Rattle.measure.specs.Group.{OrderedGroup}
use Rattle.graph.specs.Graph.{Cycle, Different, Edge, Fits, In, Walk, Weight}
use Rattle.graph.specs.Theorems.{NoNegativeClosedWalk, NegativeCycleRefutes, TightWalk, TightPrefixes}
use Rattle.graph.proofs.Lists.{in_left}
use Rattle.graph.proofs.Sums.{both, chain_le, from_zero, neutral_left, tight_head, tight_tail, zero_start}

module _ (g : OrderedGroup) (n : ℕ) (w : ℕ → ℕ → Option g.carrier) where
  open g use {carrier, neutral, plus, le, assoc, comm, plus_neutral}

  -- two walks, one after the other
  pub walk_append : (x : ℕ) (ms : List ℕ) (y : ℕ) (s : carrier) (ns : List ℕ) (z : ℕ) (t : carrier) → Walk g n w x ms y s → Walk g n w y ns z t → Walk g n w x (ms ++ ns) z (plus s t)
  walk_append x [] y s ns z t (e, o) k = rw (e, o, neutral_left g t) k
  walk_append x (m ∷ ms) y s ns z t (c, r, edge, rest, e) k = (c, plus r t, edge, walk_append m ms y r ns z t rest k, ap (λ a. plus a t) e ∙ assoc c r t)

  pub walk_one : (x y : ℕ) (c : carrier) → Edge g n w x y c → Walk g n w x (y ∷ []) y c
  walk_one x y c edge = (c, neutral, edge, (refl, refl), sym (plus_neutral c))

  -- one more marker at the end
  pub walk_push : (x : ℕ) (ms : List ℕ) (y : ℕ) (s : carrier) (z : ℕ) (c : carrier) → Walk g n w x ms y s → Edge g n w y z c → Walk g n w x (ms ++ (z ∷ [])) z (plus s c)
  walk_push x ms y s z c walk edge = walk_append x ms y s (z ∷ []) z c walk (walk_one y z c edge)

  along_end : (d : ℕ → carrier) (x y : ℕ) (s : carrier) → x ≡ y → s ≡ neutral → le (d y) (plus (d x) s)
  along_end d x y s e z = rw (z, e, plus_neutral) (g.le_refl _)

  -- along a walk the depth grows by its sum at most
  pub along : (d : ℕ → carrier) → Fits g n w d → (x : ℕ) (ms : List ℕ) (y : ℕ) (s : carrier) → Walk g n w x ms y s → le (d y) (plus (d x) s)
  along d f x [] y s (e, z) = along_end d x y s e z
  along d f x (m ∷ ms) y s (c, r, edge, rest, e) = chain_le g (d x) (d m) (d y) c r s (f.keeps x m c edge) (along d f m ms y r rest) e

  -- a depth that fits is no more than a walk from the datum
  pub at_most : (d : ℕ → carrier) → Fits g n w d → (ms : List ℕ) (y : ℕ) (s : carrier) → Walk g n w 0 ms y s → le (d y) s
  at_most d f ms y s walk = zero_start g (d 0) (d y) s f.datum (along d f 0 ms y s walk)

  tight_from : (d : ℕ → carrier) → Fits g n w d → (x : ℕ) (ms : List ℕ) (y : ℕ) (s : carrier) → Walk g n w x ms y s → le (plus (d x) s) (d y) → TightWalk g n w d x ms
  tight_from d f x [] y s walk h = tt
  tight_from d f x (m ∷ ms) y s (c, r, edge, rest, e) h =
      let step = f.keeps x m c edge in
      let tail = along d f m ms y r rest in
      ((c, edge, tight_head g (d x) (d m) (d y) c r s e step tail h), tight_from d f m ms y r rest (tight_tail g (d x) (d m) (d y) c r s e step tail h))

pub no_negative_closed_walk : (g : OrderedGroup) → NoNegativeClosedWalk g
no_negative_closed_walk g n w d f x ms s closed = from_zero g (d x) s (along g n w d f x ms x s closed)

pub negative_cycle_refutes : (g : OrderedGroup) → NegativeCycleRefutes g
negative_cycle_refutes g n w [] s r below d f = r
negative_cycle_refutes g n w (x ∷ []) s r below d f = r
negative_cycle_refutes g n w (x ∷ y ∷ ms) s r below d f = below (no_negative_closed_walk g n w d f x (y ∷ (ms ++ (x ∷ []))) s r.1)

pub tight_prefixes : (g : OrderedGroup) → TightPrefixes g
tight_prefixes g n w d f m ms walk = tight_from g n w d f 0 ms m (d m) walk (rw (f.datum, neutral_left g) (g.le_refl _))

-- each edge of w is one of w', of no more weight
abbrev pub Smaller : (g : OrderedGroup) → Weight g → Weight g → Type 0
Smaller g w w' = (x y : ℕ) (c : g.carrier) → w x y ≡ some c → (c' : g.carrier) × (w' x y ≡ some c') × g.le c' c

module _ (g : OrderedGroup) (n : ℕ) (w w' : Weight g) (smaller : Smaller g w w') where
  -- a walk is one of the smaller weights too, of no more sum
  pub smaller_walk : (x : ℕ) (ms : List ℕ) (y : ℕ) (s : g.carrier) → Walk g n w x ms y s → (s' : g.carrier) × Walk g n w' x ms y s' × g.le s' s
  smaller_walk x [] y s (e, z) = (s, (e, z), g.le_refl s)
  smaller_walk x (m ∷ ms) y s (c, r, edge, rest, e) = joined (smaller x m c edge.2) (smaller_walk m ms y r rest)
    where
      joined : (c' : g.carrier) × (w' x m ≡ some c') × g.le c' c → (r' : g.carrier) × Walk g n w' m ms y r' × g.le r' r → (s' : g.carrier) × Walk g n w' x (m ∷ ms) y s' × g.le s' s
      joined (c', edge', hc) (r', rest', hr) = (g.plus c' r', (c', r', (edge.0, edge.1, edge'), rest', refl), rw e (both g hc hr))

  pub smaller_cycle : (ms : List ℕ) (s : g.carrier) → Cycle g n w ms s → (s' : g.carrier) × Cycle g n w' ms s' × g.le s' s
  smaller_cycle [] s cycle = absurd cycle
  smaller_cycle (x ∷ []) s cycle = absurd cycle
  smaller_cycle (x ∷ y ∷ ms) s cycle = let r = smaller_walk x (y ∷ (ms ++ (x ∷ []))) x s cycle.1 in (r.0, (cycle.0, r.1), r.2)

module _ (g : OrderedGroup) (n : ℕ) (w : Weight g) where
  -- the markers that a walk comes to are markers of the graph
  walk_inside : (x : ℕ) (ms : List ℕ) (y : ℕ) (s : g.carrier) → Walk g n w x ms y s → (u : ℕ) → In u ms → u < n
  walk_inside x [] y s walk u i = absurd i
  walk_inside x (m ∷ ms) y s (c, r, edge, rest, e) u (inl k) = rw k edge.1
  walk_inside x (m ∷ ms) y s (c, r, edge, rest, e) u (inr i) = walk_inside m ms y r rest u i

  pub cycle_different : (ms : List ℕ) (s : g.carrier) → Cycle g n w ms s → Different ms
  cycle_different [] s cycle = absurd cycle
  cycle_different (x ∷ []) s cycle = absurd cycle
  cycle_different (x ∷ y ∷ ms) s cycle = cycle.0

  -- so are those of a cycle
  pub cycle_inside : (ms : List ℕ) (s : g.carrier) → Cycle g n w ms s → (u : ℕ) → In u ms → u < n
  cycle_inside [] s cycle u i = absurd i
  cycle_inside (x ∷ []) s cycle u i = absurd cycle
  cycle_inside (x ∷ y ∷ ms) s (d, (c, r, edge, rest, e)) u (inl k) = rw k edge.0
  cycle_inside (x ∷ y ∷ ms) s (d, walk) u (inr i) = walk_inside x (y ∷ (ms ++ (x ∷ []))) x s walk u (in_left u (y ∷ ms) (x ∷ []) i)

-- The parents when one weight falls. Assumes nothing.
use Rattle.std.proofs.Common.{◌≡◌, ℕ, zero, suc, ◌-◌, ◌<◌, Bool, true, false, ◌⊎◌, sym, refl, ap, ◌∙◌, inl, inr, arith}
use native.Mathlib.Decide.{ℕ_discrete}
use Rattle.measure.specs.Group.{OrderedGroup}
use Rattle.graph.specs.Graph.{Weight, Edge}
use Rattle.graph.specs.Tree.{climb, Tight}
use Rattle.graph.specs.Settling.{Settles}
use Rattle.graph.proofs.Regrow.{Born, Grown, Regrafted, Turned, Ended, GrowsOne, Regrown}
use Rattle.graph.proofs.Regrow.Born.{same, first, later}
use Rattle.graph.proofs.Sums.{le_dec, le_of_eq, not_fallen, tight_again}
use Rattle.graph.proofs.Trees.{climb_datum, short_climbs}
use Rattle.graph.proofs.Relabels.{same_pair, not_both, which, relabelled}

module _ (g : OrderedGroup) (n : ℕ) (w : Weight g) (a b : ℕ) (c : g.carrier) (d : ℕ → g.carrier) (p : ℕ → ℕ)
    (t : ℕ) (X X' : ℕ → Bool) (L L' : ℕ → g.carrier) (q q' turn turn' : ℕ → ℕ) (y : ℕ)
    (hy : y < n) (open-y : X y ≡ false) (below : (z : ℕ) → z < n → g.le (L z) (d z))
    (grown : Grown g n w a b c d p t X L q turn) (sets : Settles X y X') (kept : (z : ℕ) → X' z ≡ true → L' z ≡ L z)
    (graft : Regrafted g n w a b c d p X' L y L' q q') (turned : Turned t y turn turn') where
  not_y : (u : ℕ) → X u ≡ true → ¬ (u ≡ y)
  not_y u s e = not_both (X u) s (ap X e ∙ open-y)

  turns : (z : ℕ) → z < n → X' z ≡ true → turn' z < suc t
  turns z h s = at (ℕ_discrete z y)
    where
      at : Dec (z ≡ y) → turn' z < suc t
      at (yes e) = let k : turn' z ≡ t = ap turn' e ∙ turned.at in omega arith
      at (no ne) =
          let k : turn z < t = grown.turns z h (sym (sets.other z ne) ∙ s) in
          let m : turn' z ≡ turn z = turned.other z ne in
          omega arith

  born : (z : ℕ) → z < n → Born g n w a b c d p X' L' q' turn' z
  born z h = at (graft z h) (grown.born z h)
    where
      -- of a parent that stays
      earlier : X (q z) ≡ true → q z < n → (X z ≡ true → turn (q z) < turn z) → q' z ≡ q z → X' z ≡ true → turn' (q' z) < turn' z
      earlier s hq k eq s' = by (ℕ_discrete z y)
        where
          up : turn' (q' z) ≡ turn (q z)
          up = ap turn' eq ∙ turned.other (q z) (not_y (q z) s)

          by : Dec (z ≡ y) → turn' (q' z) < turn' z
          by (yes e) =
              let u : turn' (q' z) ≡ turn (q z) = up in
              let m : turn' z ≡ t = ap turn' e ∙ turned.at in
              let l : turn (q z) < t = grown.turns (q z) hq s in
              omega arith
          by (no ne) =
              let u : turn' (q' z) ≡ turn (q z) = up in
              let m : turn' z ≡ turn z = turned.other z ne in
              let l : turn (q z) < turn z = k (sym (sets.other z ne) ∙ s') in
              omega arith

      settled_now : (u : ℕ) → X u ≡ true → X' u ≡ true
      settled_now u s = sets.other u (not_y u s) ∙ s

      at : ((L' z ≡ L z) × (q' z ≡ q z)) ⊎ ((X' z ≡ false) × (¬ g.le (L z) (L' z)) × (q' z ≡ y) × (v : g.carrier) × Edge g n w y z v × (L' z ≡ g.plus (L y) v))
          → Born g n w a b c d p X L q turn z → Born g n w a b c d p X' L' q' turn' z
      at (inl (el, eq)) (same e k) = same (eq ∙ e) (el ∙ k)
      at (inl (el, eq)) (first e k l f) = first e (eq ∙ k) (el ∙ l) (λ m. f (rw el at m))
      at (inl (el, eq)) (later v s k edge l f) =
          later v (rw eq (settled_now (q z) s)) (earlier s edge.0 k eq) (rw eq edge)
          (el ∙ l ∙ ap (λ x. g.plus x v) (sym (kept (q z) (settled_now (q z) s)) ∙ ap L' (sym eq))) (λ m. f (rw el at m))
      at (inr (u, low, eq, v, edge, l)) _ =
          later v (rw eq sets.at) (λ s. not_both (X' z) s u) (rw eq edge)
          (l ∙ ap (λ x. g.plus x v) (sym (kept y sets.at) ∙ ap L' (sym eq))) (λ m. low (g.le_trans _ _ _ (below z h) m))

pub grows_one : (g : OrderedGroup) → GrowsOne g
grows_one g n w a b c d p t X X' L L' q q' turn turn' y hy open-y below grown sets kept graft turned = record {
  turns = turns g n w a b c d p t X X' L L' q q' turn turn' y hy open-y below grown sets kept graft turned;
  born = born g n w a b c d p t X X' L L' q q' turn turn' y hy open-y below grown sets kept graft turned;
}

module _ (g : OrderedGroup) (n : ℕ) (w w' : Weight g) (a b : ℕ) (c : g.carrier) (d : ℕ → g.carrier) (p : ℕ → ℕ)
    (t : ℕ) (X : ℕ → Bool) (L : ℕ → g.carrier) (q turn : ℕ → ℕ) (end : Ended g n w a b c d p w' t X L q turn) where
  Stands : ℕ → Type 0
  Stands z = g.le (d z) (L z)

  -- a marker that stands has the old label and the old parent
  stands_same : (z : ℕ) → z < n → g.le (d z) (L z) → (q z ≡ p z) × (L z ≡ d z)
  stands_same z h s = at (end.grown.born z h)
    where
      at : Born g n w a b c d p X L q turn z → (q z ≡ p z) × (L z ≡ d z)
      at (same e k) = (e, k)
      at (first e k l f) = absurd (f s)
      at (later v x k edge l f) = absurd (f s)

  -- and its parent stands
  stands_up : (z : ℕ) → 0 < z → z < n → g.le (d z) (L z) → g.le (d (p z)) (L (p z))
  stands_up z pos h s = at (end.tight z pos h) (which (X (p z)))
    where
      at : (v : g.carrier) × Edge g n w (p z) z v × (d z ≡ g.plus (d (p z)) v) → (X (p z) ≡ true) ⊎ (X (p z) ≡ false) → g.le (d (p z)) (L (p z))
      at (v, edge, e) (inl x) = not_fallen g (L z) (L (p z)) (d z) (d (p z)) v s e (end.labels.done (p z) z v x edge)
      at (v, edge, e) (inr x) = end.rest (p z) edge.0 x

  positive : 0 < n
  positive = let h : a < n = end.a_inside in omega arith

  root : q 0 ≡ 0
  root = (stands_same 0 positive end.at_datum).0 ∙ end.tree.root

  inside : (z : ℕ) → z < n → q z < n
  inside z h = at (end.grown.born z h)
    where
      at : Born g n w a b c d p X L q turn z → q z < n
      at (same e k) = rw e (end.tree.inside z h)
      at (first e k l f) = rw k end.a_inside
      at (later v x k edge l f) = edge.0

  climb_standing : (k z : ℕ) → z < n → g.le (d z) (L z) → climb p k z ≡ 0 → climb q k z ≡ 0
  climb_standing zero z h s e = e
  climb_standing (suc k) zero h s e = rw root (climb_datum q root k)
  climb_standing (suc k) (suc z) h s e = rw (stands_same (suc z) h s).0 (climb_standing k (p (suc z)) (end.tree.inside (suc z) h) (stands_up (suc z) (omega arith) h s) e)

  rooted_standing : (z : ℕ) → z < n → g.le (d z) (L z) → (k : ℕ) × (climb q k z ≡ 0)
  rooted_standing z h s = (n - 1, climb_standing (n - 1) z h s (end.tree.climbs z h))

  more : (z u : ℕ) → q z ≡ u → (k : ℕ) × (climb q k u ≡ 0) → (k : ℕ) × (climb q k z ≡ 0)
  more z u e (k, r) = (suc k, rw e r)

  rooted : (m z : ℕ) → z < n → turn z < m → (k : ℕ) × (climb q k z ≡ 0)
  rooted zero z h l = absurd (omega arith)
  rooted (suc m) z h l = at (λ (u : ℕ) (hu : u < n) (k : turn u < m). rooted m u hu k) (le_dec g (d z) (L z)) (which (X z)) (end.grown.born z h)
    where
      at : ((u : ℕ) → u < n → turn u < m → (k : ℕ) × (climb q k u ≡ 0)) → Dec (g.le (d z) (L z)) → (X z ≡ true) ⊎ (X z ≡ false)
          → Born g n w a b c d p X L q turn z → (k : ℕ) × (climb q k z ≡ 0)
      at ih (yes s) x _ = rooted_standing z h s
      at ih (no f) (inr x) _ = absurd (f (end.rest z h x))
      at ih (no f) (inl x) (same e k) = absurd (f (le_of_eq g (sym k)))
      at ih (no f) (inl x) (first e k o f') = more z a k (rooted_standing a end.a_inside end.at_a)
      at ih (no f) (inl x) (later v xq k edge o f') =
          let j : turn (q z) < turn z = k x in
          more z (q z) refl (ih (q z) edge.0 (omega arith))

  tight_now : Tight g n w' L q
  tight_now z pos h = at (end.grown.born z h)
    where
      other : (u : ℕ) (v : g.carrier) → Edge g n w u z v → ¬ ((u ≡ a) × (z ≡ b)) → Edge g n w' u z v
      other u v edge k = (edge.0, edge.1, end.low.other u z k ∙ edge.2)

      new_edge : (u : ℕ) → u ≡ a → z ≡ b → Edge g n w' u z c
      new_edge u eu ez = (rw eu end.a_inside, h, rw (eu, ez) end.low.at)

      kept : (v : g.carrier) × Edge g n w (p z) z v × (d z ≡ g.plus (d (p z)) v) → q z ≡ p z → L z ≡ d z
          → (v : g.carrier) × Edge g n w' (q z) z v × (L z ≡ g.plus (L (q z)) v)
      kept (v, edge, e) eq el =
          let up = stands_same (p z) edge.0 (stands_up z pos h (le_of_eq g (sym el))) in
          (v, rw eq (other (p z) v edge (λ k. end.fell (rw k.1 at (le_of_eq g (sym el))))), el ∙ e ∙ ap (λ x. g.plus x v) (sym (ap L eq ∙ up.1)))

      by_later : (v : g.carrier) → Edge g n w (q z) z v → L z ≡ g.plus (L (q z)) v → ((q z ≡ a) × (z ≡ b)) ⊎ (¬ ((q z ≡ a) × (z ≡ b)))
          → (v : g.carrier) × Edge g n w' (q z) z v × (L z ≡ g.plus (L (q z)) v)
      by_later v edge l (inr k) = (v, other (q z) v edge k, l)
      by_later v edge l (inl (eq, ez)) =
          (c, new_edge (q z) eq ez, tight_again g (L z) (L (q z)) (d a) c v l (end.low.less v (rw (eq, ez) at edge.2)) (rw ez end.at_b) (rw eq end.at_a))

      at : Born g n w a b c d p X L q turn z → (v : g.carrier) × Edge g n w' (q z) z v × (L z ≡ g.plus (L (q z)) v)
      at (same eq el) = kept (end.tight z pos h) eq el
      at (first ez eq el f) = (c, new_edge (q z) eq ez, el ∙ ap (λ x. g.plus x c) (sym (ap L eq ∙ (stands_same a end.a_inside end.at_a).1)))
      at (later v xq k edge l f) = by_later v edge l (same_pair (q z) z a b)

pub regrown : (g : OrderedGroup) → Regrown g
regrown g n w w' a b c d p t X L q turn end = (
  relabelled g n w w' a b c d X L end.a_inside (positive g n w w' a b c d p t X L q turn end) end.low end.fits end.labels end.below end.rest end.at_datum end.at_a end.at_b,
  short_climbs n q (root g n w w' a b c d p t X L q turn end) (inside g n w w' a b c d p t X L q turn end)
      (λ z h. rooted g n w w' a b c d p t X L q turn end (suc (turn z)) z h (omega arith)),
  tight_now g n w w' a b c d p t X L q turn end,
)

-- Where an edge that is no parent edge rises, nothing changes. Assumes nothing.
use Rattle.std.proofs.Common.{◌≡◌, ℕ, ◌<◌, ◌∙◌, subst}
use Rattle.measure.specs.Group.{OrderedGroup}
use Rattle.graph.specs.Graph.{Weight, Edge}
use Rattle.graph.specs.Theorems.{Solved}
use Rattle.graph.specs.Change.{Raised}
use Rattle.graph.proofs.Raises.{raised_fits}

-- the old table is a shortest-path tree of the new weights too; the datum has no parent edge
pub unaffected : (g : OrderedGroup) (n : ℕ) (w w' : Weight g) (a b : ℕ) (d : ℕ → g.carrier) (p : ℕ → ℕ)
    → Solved g n w d p → Raised g n w w' → ((x y : ℕ) → ¬ ((x ≡ a) × (y ≡ b)) → w' x y ≡ w x y) → (0 < b → ¬ (p b ≡ a)) → Solved g n w' d p
unaffected g n w w' a b d p old up other apart = record {
  fits = raised_fits g n w w' d up old.fits;
  tree = old.tree;
  tight = λ z pos h. by z pos (old.tight z pos h);
}
  where
    by : (z : ℕ) → 0 < z → (v : g.carrier) × Edge g n w (p z) z v × (d z ≡ g.plus (d (p z)) v) → (v : g.carrier) × Edge g n w' (p z) z v × (d z ≡ g.plus (d (p z)) v)
    by z pos (v, edge, e) =
        (v, (edge.0, edge.1, other (p z) z (λ k. apart (subst (λ u. 0 < u) k.1 pos) (subst (λ u. p u ≡ a) k.1 k.0)) ∙ edge.2), e)

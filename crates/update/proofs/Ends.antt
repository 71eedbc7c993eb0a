-- Where an edge falls: nothing changes, or it closes a cycle with the old parents. Assumes nothing.
use Rattle.std.proofs.Common.{◌≡◌, ℕ, zero, suc, ◌-◌, ◌<◌, Bool, true, false, ◌⊎◌, List, [], ◌∷◌, ◌++◌, Decides, MatchBool, sym, refl, ◌∙◌, subst, inl, inr, true≢false}
use Rattle.measure.specs.Group.{OrderedGroup}
use Rattle.graph.specs.Graph.{Weight, Different, Edge, Walk, Cycle}
use Rattle.graph.specs.Tree.{climb, way}
use Rattle.graph.specs.Theorems.{Solved}
use Rattle.graph.specs.Change.{Lowered}
use Rattle.graph.proofs.Sums.{both, weigh, left_comm, tight_again}
use Rattle.graph.proofs.Walks.{walk_push}
use Rattle.graph.proofs.Trees.{Height, height_of, way_different}
use Rattle.graph.proofs.Relabels.{same_pair, unmoved, lowered_walk, tree_way, climb_inside}
use Rattle.update.specs.Lowering.{NegativeCycle}

-- what follows from a test, either way
pub by_test : {A P Q : Type 0} (r : Bool) → Decides r A → (A → P) → (¬ A → Q) → MatchBool r P Q
by_test true d met unmet = met (d.0 refl)
by_test false d met unmet = unmet (λ h. true≢false (sym (d.1 h)))

module _ (g : OrderedGroup) (n : ℕ) (w w' : Weight g) (a b : ℕ) (c : g.carrier) (d : ℕ → g.carrier) (p : ℕ → ℕ)
    (old : Solved g n w d p) (low : Lowered g w w' a b c) (ha : a < n) (hb : b < n) where
  -- depths that keep the edge that fell stand, and so do their parents
  pub same_solved : g.le (d b) (g.plus (d a) c) → Solved g n w' d p
  same_solved keeps = record { fits = unmoved g n w w' a b c d low old.fits keeps; tree = old.tree; tight = λ z pos h. by z pos h (old.tight z pos h) (same_pair (p z) z a b) }
    where
      by : (z : ℕ) → 0 < z → z < n → (v : g.carrier) × Edge g n w (p z) z v × (d z ≡ g.plus (d (p z)) v) → ((p z ≡ a) × (z ≡ b)) ⊎ (¬ ((p z ≡ a) × (z ≡ b)))
          → (v : g.carrier) × Edge g n w' (p z) z v × (d z ≡ g.plus (d (p z)) v)
      by z pos h (v, edge, e) (inl (ep, ez)) = (
        c,
        (edge.0, edge.1, rw (ep, ez) low.at),
        tight_again g (d z) (d (p z)) (d a) c v e (low.less v (rw (ep, ez) at edge.2)) (rw ez keeps) (rw ep (g.le_refl _)),
      )
      by z pos h (v, edge, e) (inr k) = (v, (edge.0, edge.1, low.other (p z) z k ∙ edge.2), e)

  to_cycle : (x : ℕ) (ms : List ℕ) (z : ℕ) (s : g.carrier) → Different (x ∷ (ms ++ (z ∷ []))) → Walk g n w' x ((ms ++ (z ∷ [])) ++ (x ∷ [])) x s → Cycle g n w' (x ∷ (ms ++ (z ∷ []))) s
  to_cycle x [] z s o walk = (o, walk)
  to_cycle x (m ∷ ms) z s o walk = (o, walk)

  turning_cycle : (x j : ℕ) (s : g.carrier) → ¬ (a ≡ x) → climb p j a ≡ x → Different (x ∷ way p j a) → Walk g n w' x (way p j a ++ (x ∷ [])) x s → Cycle g n w' (x ∷ way p j a) s
  turning_cycle x zero s ne e o walk = absurd (ne e)
  turning_cycle x (suc j) s ne e o walk = to_cycle x (way p j (p a)) a s o walk

  not_below : (db da t s : g.carrier) → da ≡ g.plus db t → g.le s t → g.le g.neutral (g.plus s c) → g.le db (g.plus da c)
  not_below db da t s e h k = rw e (weigh g _ _ (both g h k) (simp (g.assoc, g.comm, left_comm g, g.plus_neutral)))

  -- where b is an ancestor of a
  pub turning : (j : ℕ) → ¬ (a ≡ b) → climb p j a ≡ b → ((i : ℕ) → i < j → 0 < climb p i a) → ¬ g.le (d b) (g.plus (d a) c) → NegativeCycle g n w' p a b
  turning j ne e up falls = record {
    up = j;
    sum = g.plus now.0 c;
    first = e;
    cycle = turning_cycle b j (g.plus now.0 c) ne e apart (walk_push g n w' b (way p j a) a now.0 b c now.1 (ha, hb, low.at));
    negative = λ h. falls (not_below (d b) (d a) down.0 now.0 down.2 now.2 h);
  }
    where
      inside : (i : ℕ) → climb p i a < n
      inside i = climb_inside n p old.tree.inside i a ha

      down : (t : g.carrier) × Walk g n w b (way p j a) a t × (d a ≡ g.plus (d b) t)
      down = subst (λ z. (t : g.carrier) × Walk g n w z (way p j a) a t × (d a ≡ g.plus (d z) t)) e (tree_way g n w d p old.tree.inside old.tight j a ha up)

      now : (s : g.carrier) × Walk g n w' b (way p j a) a s × g.le s down.0
      now = lowered_walk g n w w' a b c low b (way p j a) a down.0 down.1

      heights : (i : ℕ) → i < j → (0 < climb p i a) × ((h : ℕ) × Height p h (climb p i a))
      heights i h = let o = height_of p (n - 1) (climb p i a) (old.tree.climbs (climb p i a) (inside i)) in (up i h, (o.0, o.2))

      apart : Different (b ∷ way p j a)
      apart = subst (λ z. Different (z ∷ way p j a)) e (way_different p old.tree.root j a heights)

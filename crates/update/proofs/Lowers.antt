-- The labels and parents while one weight falls, one marker after another. Assumes nothing.
use Rattle.std.proofs.Common.{◌≡◌, ℕ, suc, ◌-◌, ◌<◌, Bool, true, false, ◌∷◌, ◌++◌, sym, refl, ap, ◌∙◌, subst, inl, inr, ⊎_elim, arith}
use native.Mathlib.Decide.{ℕ_discrete}
use Rattle.measure.specs.Group.{OrderedGroup}
use Rattle.graph.specs.Graph.{Weight, Cycle, Edge, Fits}
use Rattle.graph.specs.Tree.{climb, way, Tree, Tight}
use Rattle.graph.specs.Theorems.{Solved}
use Rattle.graph.proofs.Relabel.{Picked, Relaxed}
use Rattle.graph.specs.Settling.{Settles}
use Rattle.graph.proofs.Regrow.{Turned, Grown, Regrafted}
use Rattle.graph.proofs.Sums.{le_of_eq, both, weigh, left_comm}
use Rattle.graph.proofs.Relabels.{not_both, settles_one, climb_inside}
use Rattle.graph.proofs.Regrows.{grows_one, regrown}
use Rattle.graph.proofs.Clashes.{clash}
use Rattle.update.specs.Relaxing.{Relaxing, Clashing}
use Rattle.update.specs.Lowering.{Falls, Growing, NegativeCycle}
use Rattle.update.proofs.Picks.{turned}
use Rattle.update.proofs.Cycles.{way_same, closed}

-- t in the place of y
abbrev pub pick_turn : {z y : ℕ} → Dec (z ≡ y) → ℕ → ℕ → ℕ
pick_turn (yes e) t u = t
pick_turn (no k) t u = u

abbrev pub turn_next : ℕ → ℕ → (ℕ → ℕ) → ℕ → ℕ
turn_next t y turn z = pick_turn (ℕ_discrete z y) t (turn z)

pub turns_next : (t y : ℕ) (turn : ℕ → ℕ) → Turned t y turn (turn_next t y turn)
turns_next t y turn = record { at = here (ℕ_discrete y y); other = λ z ne. there z ne (ℕ_discrete z y) }
  where
    here : (o : Dec (y ≡ y)) → pick_turn o t (turn y) ≡ t
    here (yes e) = refl
    here (no k) = absurd (k refl)

    there : (z : ℕ) → ¬ (z ≡ y) → (o : Dec (z ≡ y)) → pick_turn o t (turn z) ≡ turn z
    there z ne (yes e) = absurd (ne e)
    there z ne (no k) = refl

-- one that has not fallen, and leads the other
pub rest_stands : (g : OrderedGroup) (Ly dy Lz dz : g.carrier) → g.le (g.plus Ly dz) (g.plus Lz dy) → g.le dy Ly → g.le dz Lz
rest_stands g Ly dy Lz dz h k = weigh g _ _ (both g h k) (simp (g.assoc, g.comm, left_comm g))

module _ (g : OrderedGroup) (n : ℕ) (w w' : Weight g) (a b : ℕ) (c : g.carrier) (d : ℕ → g.carrier) (p : ℕ → ℕ) (U : ℕ → Bool)
    (f : Falls g n w w' a b c d p U) where
  -- the start
  pub grow_start : (X : ℕ → Bool) (L : ℕ → g.carrier) (q : ℕ → ℕ) → ((z : ℕ) → z < n → X z ≡ false)
      → ((z : ℕ) → z < n → ¬ (z ≡ b) → (L z ≡ d z) × (q z ≡ p z)) → L b ≡ g.plus (d a) c → q b ≡ a → Growing g n w w' a b c d p U X L q
  grow_start X L q none same lb qb = record {
    turns = 0;
    turn = λ z. 0;
    labels = record {
      done = λ x y v s e. not_both (X x) s (none x e.0);
      ahead = λ x y hx hy s u. not_both (X x) s (none x hx);
    };
    below = λ z h. below z h (ℕ_discrete z b);
    grown = record { turns = λ z h s. not_both (X z) s (none z h); born = λ z h. born z h (ℕ_discrete z b) };
    at_b = le_of_eq g lb;
    stays = λ z h u. same z h (λ e. not_both (U z) u (ap U e ∙ f.apart));
  }
    where
      below : (z : ℕ) → z < n → Dec (z ≡ b) → g.le (L z) (d z)
      below z h (yes e) = rw (e, lb) (turned g _ _ f.falls)
      below z h (no k) = le_of_eq g (same z h k).0

      open_b : (z : ℕ) → z ≡ b → ¬ g.le (d z) (L z)
      open_b z e h = f.falls (rw lb at (rw e at h))

      born : (z : ℕ) → z < n → Dec (z ≡ b) → Rattle.graph.proofs.Regrow.Born g n w a b c d p X L q (λ z. 0) z
      born z h (yes e) = Rattle.graph.proofs.Regrow.Born.first e (ap q e ∙ qb) (ap L e ∙ lb) (open_b z e)
      born z h (no k) = Rattle.graph.proofs.Regrow.Born.same (same z h k).1 (same z h k).0

  at_a : (X : ℕ → Bool) (L : ℕ → g.carrier) (q : ℕ → ℕ) → Growing g n w w' a b c d p U X L q → g.le (d a) (L a)
  at_a X L q grow = le_of_eq g (sym (grow.stays a f.a_inside (f.above.all 0)).0)

  -- the end
  pub grow_end : (X : ℕ → Bool) (L : ℕ → g.carrier) (q : ℕ → ℕ) → Growing g n w w' a b c d p U X L q → ((z : ℕ) → z < n → X z ≡ false → g.le (d z) (L z)) → Solved g n w' L q
  grow_end X L q grow rest = record { fits = r.0; tree = r.1; tight = r.2 }
    where
      positive : 0 < n
      positive = let h : a < n = f.a_inside in omega arith

      root : U 0 ≡ true
      root = sym (ap U (f.tree.climbs a f.a_inside)) ∙ f.above.all (n - 1)

      r : Fits g n w' L × Tree n q × Tight g n w' L q
      r = regrown g n w w' a b c d p grow.turns X L q grow.turn record {
        low = f.low;
        a_inside = f.a_inside;
        b_inside = f.b_inside;
        fits = f.fits;
        tree = f.tree;
        tight = f.tight;
        labels = grow.labels;
        below = grow.below;
        grown = grow.grown;
        rest = rest;
        at_datum = le_of_eq g (sym (grow.stays 0 positive root).0);
        at_a = at_a X L q grow;
        at_b = grow.at_b;
        fell = λ h. f.falls (g.le_trans _ _ _ h grow.at_b);
      }

  -- one marker more
  module _ (X X' : ℕ → Bool) (L L' : ℕ → g.carrier) (q q' : ℕ → ℕ) (y i : ℕ) (grow : Growing g n w w' a b c d p U X L q)
      (pick : Picked g n d X L y) (fell : ¬ g.le (d y) (L y)) (sets : Settles X y X') (rel : Relaxing g n w' X' U L q y i L' q') where
    not_a : ¬ (y ≡ a)
    not_a e = fell (rw e (at_a X L q grow))

    edge_was : (z : ℕ) (v : g.carrier) → Edge g n w' y z v → Edge g n w y z v
    edge_was z v (hy, hz, e) = (hy, hz, sym (f.low.other y z (λ k. not_a k.0)) ∙ e)

    edge_now : (z : ℕ) (v : g.carrier) → Edge g n w y z v → Edge g n w' y z v
    edge_now z v (hy, hz, e) = (hy, hz, f.low.other y z (λ k. not_a k.0) ∙ e)

    kept : (z : ℕ) → X' z ≡ true → L' z ≡ L z
    kept z t = ⊎_elim (λ o. o.0) (λ k. not_both (X' z) t k.unsettled) (rel.each z)

    lower : (z : ℕ) → g.le (L' z) (L z)
    lower z = ⊎_elim (λ o. le_of_eq g o.0) (λ k. turned g _ _ k.fell) (rel.each z)

    graft : Regrafted g n w a b c d p X' L y L' q q'
    graft z h = ⊎_elim inl (λ k. inr (k.unsettled, k.fell, k.hangs, k.amount, edge_was z k.amount k.edge, k.sum)) (rel.each z)

    grown : Grown g n w a b c d p (suc grow.turns) X' L' q' (turn_next grow.turns y grow.turn)
    grown =
        grows_one g n w a b c d p grow.turns X X' L L' q q' grow.turn (turn_next grow.turns y grow.turn) y pick.inside pick.unsettled
        grow.below grow.grown sets kept graft (turns_next grow.turns y grow.turn)

    stays : (z : ℕ) → z < n → U z ≡ true → (L' z ≡ d z) × (q' z ≡ p z)
    stays z h u = let s = grow.stays z h u in ⊎_elim (λ o. (o.0 ∙ s.0, o.1 ∙ s.1)) (λ k. not_both (U z) u k.apart) (rel.each z)

    relaxed : i ≡ n → Relaxed g n w d X' L y L'
    relaxed e = record {
      kept = kept;
      lower = λ z h. lower z;
      reached = λ z v x edge. rel.reached z v (rw e edge.1) x (edge_now z v edge);
      either = λ z h. ⊎_elim (λ o. inl o.0) (λ k. inr (k.amount, edge_was z k.amount k.edge, k.sum)) (rel.each z);
    }

    pub grow_step : i ≡ n → Growing g n w w' a b c d p U X' L' q'
    grow_step e = record {
      turns = suc grow.turns;
      turn = turn_next grow.turns y grow.turn;
      labels = settles_one g n w d X X' L L' y f.fits grow.labels pick sets (relaxed e);
      below = λ z h. g.le_trans _ _ _ (lower z) (grow.below z h);
      grown = grown;
      at_b = g.le_trans _ _ _ (lower b) grow.at_b;
      stays = stays;
    }

    -- z hangs on y now, and the parents lead from a past z to b
    pub grow_clash : (z : ℕ) → Clashing g n w' X' U L q y z → (q'' : ℕ → ℕ) → q'' z ≡ y → ((u : ℕ) → ¬ (u ≡ z) → q'' u ≡ q' u) → NegativeCycle g n w' q'' a b
    grow_clash z k q'' here other = at (f.above.only z k.fixed)
      where
        at : (j : ℕ) × (climb p j a ≡ z) × ((i : ℕ) → i < j → 0 < climb p i a) → NegativeCycle g n w' q'' a b
        at (j, e, up) =
            closed g n w' q' q'' a b y z r.0 j r.1 here other r.2 (ways.1 ∙ e)
            (subst (λ l. Cycle g n w' (b ∷ (way q' r.0 y ++ l)) r.1) lists r.3) r.4
          where
            inside : (i : ℕ) → climb p i a < n
            inside i = climb_inside n p f.tree.inside i a f.a_inside

            ways : (way q' j a ≡ way p j a) × (climb q' j a ≡ climb p j a)
            ways = way_same p q' j a (λ i l. (stays (climb p i a) (inside i) (f.above.all i)).1)

            lists : (climb p j a ∷ way p j a) ≡ (z ∷ way q' j a)
            lists = rw (e, ways.0) refl

            same : L z ≡ d (climb p j a)
            same = (grow.stays z k.edge.1 k.fixed).0 ∙ ap d (sym e)

            falls : ¬ g.le (d (climb p j a)) (g.plus (L' y) k.amount)
            falls h = k.falls (rw (same, ← kept y sets.at) h)

            r : (k' : ℕ) × (s : g.carrier) × (climb q' k' y ≡ b) × Cycle g n w' (b ∷ (way q' k' y ++ (climb p j a ∷ way p j a))) s × (¬ g.le g.neutral s)
            r =
                clash g n w w' a b c d p (suc grow.turns) X' L' q' (turn_next grow.turns y grow.turn) y k.amount j
                f.low f.a_inside f.b_inside f.fits f.tree f.tight grown sets.at (λ h. fell (rw (kept y sets.at) at h))
                (rw e (edge_was z k.amount k.edge)) falls up (λ i l. le_of_eq g (sym (stays (climb p i a) (inside i) (f.above.all i)).0))

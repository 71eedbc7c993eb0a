-- The labels and parents while a weight rises. Assumes nothing.
use Rattle.std.proofs.Common.{◌≡◌, ℕ, zero, suc, ◌+◌, ◌-◌, ◌<◌, Bool, true, false, ◌⊎◌, sym, refl, ap, ◌∙◌, subst, inl, inr, ⊎_elim, arith}
use native.Mathlib.Decide.{ℕ_discrete}
use Rattle.measure.specs.Group.{OrderedGroup}
use Rattle.graph.specs.Graph.{Weight, Edge}
use Rattle.graph.specs.Tree.{climb}
use Rattle.graph.proofs.Relabel.{Picked, Relaxed}
use Rattle.graph.specs.Settling.{Settles}
use Rattle.graph.proofs.Sums.{le_of_eq}
use Rattle.graph.proofs.Trees.{short_climbs}
use Rattle.graph.proofs.Relabels.{not_both, which, settles_one}
use Rattle.graph.proofs.Raises.{raise_starts, raise_ends}
use Rattle.update.specs.Relaxing.{Taken, Relaxing}
use Rattle.graph.specs.Theorems.{Solved}
use Rattle.update.specs.Restoring.{TightEdge}
use Rattle.raise.specs.Raising.{Rises, Gathered, Spreading}
use Rattle.update.proofs.Picks.{turned}
use Rattle.update.proofs.Lowers.{turn_next, turns_next}

module _ (g : OrderedGroup) (n : ℕ) (w : Weight g) (U X' : ℕ → Bool) (L L' : ℕ → g.carrier) (q q' : ℕ → ℕ) (y i : ℕ) (rel : Relaxing g n w X' U L q y i L' q') where
  pub unmoved_done : (z : ℕ) → X' z ≡ true → (L' z ≡ L z) × (q' z ≡ q z)
  unmoved_done z t = ⊎_elim (λ o. o) (λ k. not_both (X' z) t k.unsettled) (rel.each z)

  pub no_higher : (z : ℕ) → g.le (L' z) (L z)
  no_higher z = ⊎_elim (λ o. le_of_eq g o.0) (λ k. turned g _ _ k.fell) (rel.each z)

  pub as_relaxed : (d : ℕ → g.carrier) → i ≡ n → Relaxed g n w d X' L y L'
  as_relaxed d e = record {
    kept = λ z t. (unmoved_done z t).0;
    lower = λ z h. no_higher z;
    reached = λ z v x edge. rel.reached z v (rw e edge.1) x edge;
    either = λ z h. ⊎_elim (λ o. inl o.0) (λ k. inr (k.amount, k.edge, k.sum)) (rel.each z);
  }

  -- a marker that hung on a settled one still does, or hangs on y now
  pub hangs_on : X' y ≡ true → (z : ℕ) → X' (q z) ≡ true → TightEdge g n w L (q z) z
      → ((q' z ≡ q z) × TightEdge g n w L' (q' z) z) ⊎ ((X' z ≡ false) × (q' z ≡ y) × TightEdge g n w L' (q' z) z)
  hangs_on dy z dq (v, edge, e) = by (rel.each z)
    where
      by : ((L' z ≡ L z) × (q' z ≡ q z)) ⊎ Taken g n w X' U L q y z L' q' → ((q' z ≡ q z) × TightEdge g n w L' (q' z) z) ⊎ ((X' z ≡ false) × (q' z ≡ y) × TightEdge g n w L' (q' z) z)
      by (inl (el, eq)) = inl (eq, (v, rw eq edge, el ∙ e ∙ ap (λ u. g.plus u v) (sym (unmoved_done (q z) dq).0 ∙ ap L' (sym eq))))
      by (inr k) = inr (k.unsettled, k.hangs, (k.amount, rw k.hangs k.edge, k.sum ∙ ap (λ u. g.plus u k.amount) (sym (unmoved_done y dy).0 ∙ ap L' (sym k.hangs))))

module _ (g : OrderedGroup) (n : ℕ) (w : Weight g) (d : ℕ → g.carrier) (p : ℕ → ℕ) (K : ℕ → Bool) (r : Rises g n w d p K) where
  -- the edges from one more marker of K
  pub gather_step : (U : ℕ → Bool) (L L' : ℕ → g.carrier) (q q' : ℕ → ℕ) (x : ℕ) → Gathered g n w d p K x L q → K x ≡ true → Relaxing g n w K U L q x n L' q' → Gathered g n w d p K (x + 1) L' q'
  gather_step U L L' q q' x got kx rel = record {
    stays = λ z h k. let s = got.stays z h k in let o = same z k in (o.0 ∙ s.0, o.1 ∙ s.1);
    hangs = λ z h k. hang z (got.hangs z h k);
    most = λ u y c h ku ky edge. most u y c ku ky edge (ℕ_discrete u x) h;
  }
    where
      same : (z : ℕ) → K z ≡ true → (L' z ≡ L z) × (q' z ≡ q z)
      same = unmoved_done g n w U K L L' q q' x n rel

      hang : (z : ℕ) → (K (q z) ≡ true) × TightEdge g n w L (q z) z → (K (q' z) ≡ true) × TightEdge g n w L' (q' z) z
      hang z (k, t) = ⊎_elim (λ o. (ap K o.0 ∙ k, o.1)) (λ o. (ap K o.1 ∙ kx, o.2)) (hangs_on g n w U K L L' q q' x n rel kx z k t)

      earlier : (u : ℕ) → u < x + 1 → ¬ (u ≡ x) → u < x
      earlier u h ne = omega arith

      most : (u y : ℕ) (c : g.carrier) → K u ≡ true → K y ≡ false → Edge g n w u y c → Dec (u ≡ x) → u < x + 1 → g.le (L' y) (g.plus (L' u) c)
      most u y c ku ky edge (yes e) h = rw ((same u ku).0, e) (rel.reached y c edge.1 ky (rw e at edge))
      most u y c ku ky edge (no ne) h = rw (same u ku).0 (g.le_trans _ _ _ (no_higher g n w U K L L' q q' x n rel y) (got.most u y c (earlier u h ne) ku ky edge))

  pub gather_skip : (L : ℕ → g.carrier) (q : ℕ → ℕ) (x : ℕ) → Gathered g n w d p K x L q → K x ≡ false → Gathered g n w d p K (x + 1) L q
  gather_skip L q x got kx = record { stays = got.stays; hangs = got.hangs; most = λ u y c h ku ky edge. most u y c ku ky edge (ℕ_discrete u x) h }
    where
      earlier : (u : ℕ) → u < x + 1 → ¬ (u ≡ x) → u < x
      earlier u h ne = omega arith

      most : (u y : ℕ) (c : g.carrier) → K u ≡ true → K y ≡ false → Edge g n w u y c → Dec (u ≡ x) → u < x + 1 → g.le (L y) (g.plus (L u) c)
      most u y c ku ky edge (yes e) h = not_both (K x) (sym (ap K e) ∙ ku) kx
      most u y c ku ky edge (no ne) h = got.most u y c (earlier u h ne) ku ky edge

  -- all gathered: the start of the spreading
  pub spread_start : (L : ℕ → g.carrier) (q : ℕ → ℕ) → Gathered g n w d p K n L q → Spreading g n w d p K K L q
  spread_start L q got = record {
    turns = 1;
    turn = λ z. 0;
    labels = raise_starts g n w d K L r.fits record {
      kept = λ x h k. (got.stays x h k).0;
      most = λ x y c kx ky edge. subst (λ u. g.le (L y) (g.plus u c)) (got.stays x edge.0 kx).0 (got.most x y c edge.0 kx ky edge);
      comes = λ y h ky. comes y (got.hangs y h ky);
    };
    stays = λ z h k. (k, (got.stays z h k).0, (got.stays z h k).1);
    hangs = λ z h k. ((got.hangs z h k).0, (got.hangs z h k).1, λ t. not_both (K z) t k);
    before = λ z h t. omega arith;
  }
    where
      comes : (y : ℕ) → (K (q y) ≡ true) × TightEdge g n w L (q y) y → (x : ℕ) × (c : g.carrier) × (K x ≡ true) × Edge g n w x y c × (L y ≡ g.plus (d x) c)
      comes y (k, (v, edge, e)) = (q y, v, k, edge, e ∙ ap (λ u. g.plus u v) (got.stays (q y) edge.0 k).0)

  -- one marker more is settled
  module _ (U X X' : ℕ → Bool) (L L' : ℕ → g.carrier) (q q' : ℕ → ℕ) (y : ℕ) (now : Spreading g n w d p K X L q)
      (pick : Picked g n d X L y) (sets : Settles X y X') (rel : Relaxing g n w X' U L q y n L' q') where
    not_y : (u : ℕ) → X u ≡ true → ¬ (u ≡ y)
    not_y u s e = not_both (X u) s (ap X e ∙ pick.unsettled)

    settled_now : (u : ℕ) → X u ≡ true → X' u ≡ true
    settled_now u s = sets.other u (not_y u s) ∙ s

    same : (z : ℕ) → X' z ≡ true → (L' z ≡ L z) × (q' z ≡ q z)
    same = unmoved_done g n w U X' L L' q q' y n rel

    next : ℕ → ℕ
    next = turn_next now.turns y now.turn

    next_at : next y ≡ now.turns
    unfolding next
    next_at = (turns_next now.turns y now.turn).at

    next_other : (z : ℕ) → ¬ (z ≡ y) → next z ≡ now.turn z
    unfolding next
    next_other z ne = (turns_next now.turns y now.turn).other z ne

    hung : (z : ℕ) → z < n → (X (q z) ≡ true) × TightEdge g n w L (q z) z × (X z ≡ true → now.turn (q z) < now.turn z)
        → (X' (q' z) ≡ true) × TightEdge g n w L' (q' z) z × (X' z ≡ true → next (q' z) < next z)
    hung z h (xq, t, less) = by (hangs_on g n w U X' L L' q q' y n rel sets.at z (settled_now (q z) xq) t)
      where
        hq : q z < n
        hq = t.1.0

        later : q' z ≡ q z → X' z ≡ true → Dec (z ≡ y) → next (q' z) < next z
        later e s (yes k) =
            let a : next (q' z) ≡ now.turn (q z) = ap next e ∙ next_other (q z) (not_y (q z) xq) in
            let b : next z ≡ now.turns = ap next k ∙ next_at in
            let c : now.turn (q z) < now.turns = now.before (q z) hq xq in
            omega arith
        later e s (no k) =
            let a : next (q' z) ≡ now.turn (q z) = ap next e ∙ next_other (q z) (not_y (q z) xq) in
            let b : next z ≡ now.turn z = next_other z k in
            let c : now.turn (q z) < now.turn z = less (sym (sets.other z k) ∙ s) in
            omega arith

        by : ((q' z ≡ q z) × TightEdge g n w L' (q' z) z) ⊎ ((X' z ≡ false) × (q' z ≡ y) × TightEdge g n w L' (q' z) z)
            → (X' (q' z) ≡ true) × TightEdge g n w L' (q' z) z × (X' z ≡ true → next (q' z) < next z)
        by (inl (e, t')) = (ap X' e ∙ settled_now (q z) xq, t', λ s. later e s (ℕ_discrete z y))
        by (inr (f, e, t')) = (ap X' e ∙ sets.at, t', λ s. not_both (X' z) s f)

    before : (z : ℕ) → z < n → X' z ≡ true → Dec (z ≡ y) → next z < suc now.turns
    before z h s (yes e) = let a : next z ≡ now.turns = ap next e ∙ next_at in omega arith
    before z h s (no ne) =
        let a : next z ≡ now.turn z = next_other z ne in
        let b : now.turn z < now.turns = now.before z h (sym (sets.other z ne) ∙ s) in
        omega arith

    pub spread_step : Spreading g n w d p K X' L' q'
    spread_step = record {
      turns = suc now.turns;
      turn = next;
      labels = settles_one g n w d X X' L L' y r.fits now.labels pick sets (as_relaxed g n w U X' L L' q q' y n rel d refl);
      stays = λ z h k. let s = now.stays z h k in let x = settled_now z s.0 in (x, (same z x).0 ∙ s.1, (same z x).1 ∙ s.2);
      hangs = λ z h k. hung z h (now.hangs z h k);
      before = λ z h s. before z h s (ℕ_discrete z y);
    }

  -- all are settled
  module _ (X : ℕ → Bool) (L : ℕ → g.carrier) (q : ℕ → ℕ) (now : Spreading g n w d p K X L q) (all : (z : ℕ) → z < n → X z ≡ true) where
    kept_climb : (i z : ℕ) → z < n → K z ≡ true → climb q i z ≡ climb p i z
    kept_climb zero z h k = refl
    kept_climb (suc i) z h k = joined (now.stays z h k).2 (kept_climb i (p z) (r.tree.inside z h) (r.up z h k))
      where
        joined : q z ≡ p z → climb q i (p z) ≡ climb p i (p z) → climb q i (q z) ≡ climb p i (p z)
        joined e f = rw e f

    reach : (k z : ℕ) → z < n → now.turn z < k → (j : ℕ) × (climb q j z ≡ 0)
    reach zero z h l = absurd (omega arith)
    reach (suc k) z h l = by (λ (u : ℕ) (hu : u < n) (lu : now.turn u < k). reach k u hu lu) (which (K z))
      where
        by : ((u : ℕ) → u < n → now.turn u < k → (j : ℕ) × (climb q j u ≡ 0)) → (K z ≡ true) ⊎ (K z ≡ false) → (j : ℕ) × (climb q j z ≡ 0)
        by ih (inl s) = (n - 1, kept_climb (n - 1) z h s ∙ r.tree.climbs z h)
        by ih (inr f) =
            let o = now.hangs z h f in
            let less : now.turn (q z) < now.turn z = o.2 (all z h) in
            let u = ih (q z) o.1.1.0 (omega arith) in
            (suc u.0, u.1)

    pub spread_end : 0 < n → Solved g n w L q
    spread_end some = record {
      fits = raise_ends g n w d X L now.labels all ((now.stays 0 some r.root).1 ∙ r.fits.datum);
      tree = short_climbs n q ((now.stays 0 some r.root).2 ∙ r.tree.root) (λ z h. inside z h (which (K z))) (λ z h. reach (suc (now.turn z)) z h (omega arith));
      tight = λ z pos h. tight z pos h (which (K z));
    }
      where
        inside : (z : ℕ) → z < n → (K z ≡ true) ⊎ (K z ≡ false) → q z < n
        inside z h (inl k) = rw (now.stays z h k).2 (r.tree.inside z h)
        inside z h (inr k) = (now.hangs z h k).1.1.0

        tight : (z : ℕ) → 0 < z → z < n → (K z ≡ true) ⊎ (K z ≡ false) → TightEdge g n w L (q z) z
        tight z pos h (inr k) = (now.hangs z h k).1
        tight z pos h (inl k) = tight_still (r.tight z pos h k)
          where
            tight_still : TightEdge g n w d (p z) z → TightEdge g n w L (q z) z
            tight_still (v, edge, e) =
                let s = now.stays z h k in
                let u = now.stays (p z) edge.0 (r.up z h k) in
                (v, rw s.2 edge, s.1 ∙ e ∙ ap (λ t. g.plus t v) (sym u.1 ∙ ap L (sym s.2)))

-- Old paths that still stand are kept. Assumes nothing.
use Rattle.std.proofs.Common.{◌≡◌, ℕ, zero, suc, ◌+◌, ◌-◌, ◌<◌, ◌≤◌, ◌⊎◌, List, [], ◌∷◌, ◌++◌, length, set, length-set, Some, Decides, Ordering, Less, Equal, Greater, is_eq, sym, refl, ap, ◌∙◌, subst, inl, inr, arith}
use Rattle.std.specs.Ordering.{MatchOrdering}
use Rattle.std.proofs.lemmas.Bool.{false≢true}
use mathlib.Core.Path.{fun_ext}
use native.Mathlib.Decide.{ℕ_discrete}
use Rattle.measure.specs.Group.{Lt, OrderedGroup}
use Rattle.measure.specs.declared.Amount.{Amount}
use Rattle.measure.specs.declared.Measure as measure
use Rattle.graph.specs.declared.Graph as graph
use Rattle.graph.specs.Graph.{PathTo, Weight}
use Rattle.graph.specs.Tree.{climb, climbed, path_to, Tree}
use Rattle.graph.specs.Theorems.{Solved, TightWalk}
use Rattle.graph.specs.Weights.{valued, weights}
use Rattle.graph.proofs.Sums.{le_of_eq}
use Rattle.graph.proofs.Trees.{climb_datum, short_climbs}
use Rattle.graph.proofs.Valued.{one_value}
use Rattle.graph.proofs.Walks.{tight_prefixes}
use Rattle.table.specs.declared.row.Row.{Row}
use Rattle.table.specs.Climb.{deep, up as parents_of}
use Rattle.update.proofs.Rows.{deep_kept, up_other, up_same}
use Rattle.update.specs.Reading.{depth}
use Rattle.update.specs.Restoring.{TightEdge, Stands}

-- the last marker of a walk from x
end_of : ℕ → List ℕ → ℕ
end_of x [] = x
end_of x (m ∷ ms) = end_of m ms

end_push : (x : ℕ) (ms : List ℕ) (z : ℕ) → end_of x (ms ++ (z ∷ [])) ≡ z
unfolding end_of
end_push x [] z = refl
end_push x (m ∷ ms) z = end_push m ms z

end_climbed : (p : ℕ → ℕ) (k m : ℕ) → climb p k m ≡ 0 → end_of 0 (climbed p k m) ≡ m
unfolding end_of
end_climbed p zero m e = sym e
end_climbed p (suc k) zero e = refl
end_climbed p (suc k) (suc m) e = end_push 0 (climbed p k (p (suc m))) (suc m)

-- the paths by p that stand are taken, of the markers below k; the other parents stay as they were in q
abbrev pub Restored : (g : OrderedGroup) → ℕ → Weight g → (ℕ → g.carrier) → (ℕ → ℕ) → (ℕ → ℕ) → (ℕ → ℕ) → ℕ → Type 0
Restored g n w L p q q' k = (z : ℕ) → z < k → (Stands g n w L p z × (q' z ≡ p z)) ⊎ ((Stands g n w L p z → q z ≡ p z) × (q' z ≡ q z))

module _ (g : OrderedGroup) (n : ℕ) (w : Weight g) (L : ℕ → g.carrier) (p : ℕ → ℕ) where
  -- the path above a marker whose path stands
  pub stands_up : (m : ℕ) → Stands g n w L p m → Stands g n w L p (p m)
  stands_up m s i h = s (suc i) h

  pub stands_down : (m : ℕ) → TightEdge g n w L (p m) m → Stands g n w L p (p m) → Stands g n w L p m
  stands_down m t s zero h = t
  stands_down m t s (suc i) h = s i h

  pub datum_stands : p 0 ≡ 0 → (m : ℕ) → m ≡ 0 → Stands g n w L p m
  datum_stands root m e i h = absurd (none (ap (climb p i) e ∙ climb_datum p root i))
    where
      none : climb p i m ≡ 0 → ⊥
      none o = omega arith

  last_tight : (x : ℕ) (ms : List ℕ) (z : ℕ) → TightWalk g n w L x (ms ++ (z ∷ [])) → TightWalk g n w L x ms × TightEdge g n w L (end_of x ms) z
  unfolding end_of
  last_tight x [] z (t, rest) = (tt, t)
  last_tight x (m ∷ ms) z (t, rest) = let r = last_tight m ms z rest in ((t, r.0), r.1)

  -- a path of tight edges stands
  tight_stands : p 0 ≡ 0 → (k m : ℕ) → climb p k m ≡ 0 → TightWalk g n w L 0 (climbed p k m) → Stands g n w L p m
  tight_stands root zero m e t = datum_stands root m e
  tight_stands root (suc k) zero e t = datum_stands root 0 refl
  tight_stands root (suc k) (suc m) e t =
      let r = last_tight 0 (climbed p k (p (suc m))) (suc m) t in
      stands_down (suc m) (subst (λ u. TightEdge g n w L u (suc m)) (end_climbed p k (p (suc m)) e) r.1) (tight_stands root k (p (suc m)) e r.0)

  module _ (q q' : ℕ → ℕ) (each : Restored g n w L p q q' n) (old : Tree n p) (now : Solved g n w L q) where
    kept_climb : (m : ℕ) → m < n → Stands g n w L p m → (i : ℕ) → climb q' i m ≡ climb p i m
    kept_climb m h s zero = refl
    kept_climb m h s (suc i) = joined (each m h) (kept_climb (p m) (old.inside m h) (stands_up m s) i)
      where
        joined : (Stands g n w L p m × (q' m ≡ p m)) ⊎ ((Stands g n w L p m → q m ≡ p m) × (q' m ≡ q m)) → climb q' i (p m) ≡ climb p i (p m) → climb q' i (q' m) ≡ climb p i (p m)
        joined (inl (t, e)) k = ap (climb q' i) e ∙ k
        joined (inr (t, e)) k = ap (climb q' i) (e ∙ t s) ∙ k

    reach : (k m : ℕ) → m < n → climb q k m ≡ 0 → (l : ℕ) × (climb q' l m ≡ 0)
    reach zero m h e = (0, e)
    reach (suc k) m h e = by (λ (u : climb q k (q m) ≡ 0). reach k (q m) (now.tree.inside m h) u) (each m h)
      where
        by : (climb q k (q m) ≡ 0 → (l : ℕ) × (climb q' l (q m) ≡ 0)) → (Stands g n w L p m × (q' m ≡ p m)) ⊎ ((Stands g n w L p m → q m ≡ p m) × (q' m ≡ q m)) → (l : ℕ) × (climb q' l m ≡ 0)
        by ih (inl (s, t)) = (n - 1, kept_climb m h s (n - 1) ∙ old.climbs m h)
        by ih (inr (s, t)) = let r = ih e in (suc r.0, ap (climb q' r.0) t ∙ r.1)

    pub restored : 0 < n → Solved g n w L q'
    restored some = record {
      fits = now.fits;
      tree = short_climbs n q' (root (each 0 some)) (λ m h. inside m h (each m h)) (λ m h. reach (n - 1) m h (now.tree.climbs m h));
      tight = λ m pos h. tight m pos h (each m h);
    }
      where
        root : (Stands g n w L p 0 × (q' 0 ≡ p 0)) ⊎ ((Stands g n w L p 0 → q 0 ≡ p 0) × (q' 0 ≡ q 0)) → q' 0 ≡ 0
        root (inl (s, e)) = e ∙ old.root
        root (inr (s, e)) = e ∙ now.tree.root

        inside : (m : ℕ) → m < n → (Stands g n w L p m × (q' m ≡ p m)) ⊎ ((Stands g n w L p m → q m ≡ p m) × (q' m ≡ q m)) → q' m < n
        inside m h (inl (s, e)) = rw e (old.inside m h)
        inside m h (inr (s, e)) = rw e (now.tree.inside m h)

        tight : (m : ℕ) → 0 < m → m < n → (Stands g n w L p m × (q' m ≡ p m)) ⊎ ((Stands g n w L p m → q m ≡ p m) × (q' m ≡ q m)) → TightEdge g n w L (q' m) m
        tight m pos h (inl (s, e)) = rw e (s 0 pos)
        tight m pos h (inr (s, e)) = rw e (now.tight m pos h)

    same_climbed : (k m : ℕ) → ((i : ℕ) → climb q' i m ≡ climb p i m) → climbed q' k m ≡ climbed p k m
    same_climbed zero m all = refl
    same_climbed (suc k) zero all = refl
    same_climbed (suc k) (suc m) all =
        let e : q' (suc m) ≡ p (suc m) = all 1 in
        ap (λ u. climbed q' k u ++ (suc m ∷ [])) e ∙ ap (λ l. l ++ (suc m ∷ [])) (same_climbed k (p (suc m)) (λ i. ap (climb q' i) (sym e) ∙ all (suc i)))

    -- a path that adds up to its depth is kept
    pub kept_path : (m : ℕ) → m < n → PathTo g n w (path_to p n m) m (L m) → path_to q' n m ≡ path_to p n m
    kept_path m h path =
        ap (λ l. 0 ∷ l) (same_climbed (n - 1) m
        (kept_climb m h (tight_stands old.root (n - 1) m (old.climbs m h) (tight_prefixes g n w L now.fits m (climbed p (n - 1) m) path.1))))

  -- one marker more
  pub restored_more : (q q' q'' : ℕ → ℕ) (k : ℕ) → Restored g n w L p q q' k → ((z : ℕ) → ¬ (z ≡ k) → q'' z ≡ q' z)
      → (Stands g n w L p k × (q'' k ≡ p k)) ⊎ ((Stands g n w L p k → q k ≡ p k) × (q'' k ≡ q k)) → Restored g n w L p q q'' (k + 1)
  restored_more q q' q'' k each other here z h = by (ℕ_discrete z k)
    where
      earlier : ¬ (z ≡ k) → z < k
      earlier ne = omega (arith, λ (o : z ≡ k). ne o)

      was : ¬ (z ≡ k) → (Stands g n w L p z × (q' z ≡ p z)) ⊎ ((Stands g n w L p z → q z ≡ p z) × (q' z ≡ q z)) → (Stands g n w L p z × (q'' z ≡ p z)) ⊎ ((Stands g n w L p z → q z ≡ p z) × (q'' z ≡ q z))
      was ne (inl (s, e)) = inl (s, other z ne ∙ e)
      was ne (inr (s, e)) = inr (s, other z ne ∙ e)

      by : Dec (z ≡ k) → (Stands g n w L p z × (q'' z ≡ p z)) ⊎ ((Stands g n w L p z → q z ≡ p z) × (q'' z ≡ q z))
      by (yes e) = subst (λ u. (Stands g n w L p u × (q'' u ≡ p u)) ⊎ ((Stands g n w L p u → q u ≡ p u) × (q'' u ≡ q u))) (sym e) here
      by (no ne) = was ne (each z (earlier ne))

-- equality, from a comparison
pub equal_by : (g : OrderedGroup) (x y : g.carrier) (o : Ordering) → MatchOrdering o (Lt g x y) (x ≡ y) (Lt g y x) → Decides (is_eq o) (x ≡ y)
equal_by g x y Less r = ((λ e. absurd (false≢true e)), (λ e. absurd (r (le_of_eq g (sym e)))))
equal_by g x y Equal r = ((λ _. r), (λ _. refl))
equal_by g x y Greater r = ((λ e. absurd (false≢true e)), (λ e. absurd (r (le_of_eq g e))))

module _ {X Y : Type 0} (s : graph.Ghosts X) (m : measure.Ghosts Y) (x : X) (n : ℕ) (rows : List Row) (a b : ℕ) (w : Amount) (edge : s.weight x a b ≡ Some w) where
  pub tight_edge : a < n → b < n → depth m rows b ≡ m.group.plus (depth m rows a) (m.value w) → TightEdge m.group n (weights s m x) (depth m rows) a b
  tight_edge ha hb e = (m.value w, (ha, hb, ap (valued m.value) edge), e)

  pub edge_sum : TightEdge m.group n (weights s m x) (depth m rows) a b → depth m rows b ≡ m.group.plus (depth m rows a) (m.value w)
  edge_sum (v, e, t) = t ∙ ap (m.group.plus (depth m rows a)) (one_value m.value (s.weight x a b) w v edge e.2)

module _ {M : Type 0} (m : measure.Ghosts M) (n : ℕ) (w : Weight m.group) (p : ℕ → ℕ) (start : List Row) where
  -- the rows as the turn for marker k begins
  pub record Restoring (now : List Row) (k : ℕ) : Type 0 where
    pub depths : (z : ℕ) → deep now z ≡ deep start z
    pub each : Restored m.group n w (depth m start) p (parents_of start) (parents_of now) k
    pub later : (z : ℕ) → k ≤ z → parents_of now z ≡ parents_of start z
    pub long : length now ≡ 64

  module _ (now : List Row) (k : ℕ) (got : Restoring now k) where
    pub restore_keep : (Stands m.group n w (depth m start) p k → parents_of start k ≡ p k) → Restoring now (k + 1)
    restore_keep stays = record {
      depths = got.depths;
      each = restored_more m.group n w (depth m start) p (parents_of start) (parents_of now) (parents_of now) k got.each (λ z ne. refl) (inr (stays, got.later k (omega arith)));
      later = λ z h. got.later z (omega arith);
      long = got.long;
    }

    pub restore_take : Stands m.group n w (depth m start) p k → k < 64 → (y : ℕ) → y ≡ p k → Restoring (set now k (record { depth = deep now k; parent = y })) (k + 1)
    restore_take stands low y e = record {
      depths = λ z. deep_kept now k y tall z ∙ got.depths z;
      each = restored_more m.group n w (depth m start) p (parents_of start) (parents_of now) (parents_of (set now k row)) k got.each (λ z ne. up_other now k z row ne) (inl (stands, up_same now k row tall ∙ e));
      later = λ z h. up_other now k z row (λ o. omega arith) ∙ got.later z (omega arith);
      long = length-set now k row ∙ got.long;
    }
      where
        tall : k < length now
        tall = omega (arith, got.long)

        row : Row
        row = record { depth = deep now k; parent = y }

  module _ (now : List Row) (k : ℕ) (got : Restoring now k) (all : n ≤ k) (some : 0 < n) (old : Tree n p) (solved : Solved m.group n w (depth m start) (parents_of start)) where
    same : depth m now ≡ depth m start
    same = fun_ext (λ z. ap m.value (got.depths z))

    every : Restored m.group n w (depth m start) p (parents_of start) (parents_of now) n
    every z h = got.each z (omega arith)

    pub restore_solved : Solved m.group n w (depth m now) (parents_of now)
    restore_solved = rw same (restored m.group n w (depth m start) p (parents_of start) (parents_of now) every old solved some)

    pub restore_kept : (z : ℕ) → z < n → PathTo m.group n w (path_to p n z) z (depth m now z) → path_to (parents_of now) n z ≡ path_to p n z
    restore_kept z h path = kept_path m.group n w (depth m start) p (parents_of start) (parents_of now) every old solved z h (rw same at path)

-- Trees, and depths that a tree of tight edges certifies. Assumes nothing.
use Rattle.std.proofs.Common.{◌≡◌, ℕ, zero, suc, ◌-◌, ◌<◌, ◌≤◌, List, [], ◌∷◌, ◌++◌, length, sym, refl, ap, ◌∙◌, subst, inl, inr, ⊎_elim, arith, length-append}
use mathlib.Core.Option.{Option}
use Rattle.measure.specs.Group.{OrderedGroup}
use Rattle.graph.specs.Graph.{In, Different, Edge, Walk, Weight, Fits}
use Rattle.graph.specs.Tree.{climb, climbed, way, ShortestPathTree, Tree, Tight}
use Rattle.graph.specs.Theorems.{Certifiable, Certificate, ShortClimbs, Solved}
use Rattle.graph.proofs.Sums.{cancel}
use Rattle.graph.proofs.Lists.{in_append, in_one, different_push, pigeonhole}
use Rattle.graph.proofs.Walks.{walk_push, at_most}

module _ (p : ℕ → ℕ) where
  -- k climbs and no fewer lead from m to the datum
  abbrev pub Height : ℕ → ℕ → Type 0
  Height zero m = m ≡ 0
  Height (suc k) m = (0 < m) × Height k (p m)

  pub height_of : (k m : ℕ) → climb p k m ≡ 0 → (j : ℕ) × (j ≤ k) × Height j m
  height_of zero m e = (0, omega arith, e)
  height_of (suc k) zero e = (0, omega arith, refl)
  height_of (suc k) (suc m) e = let r = height_of k (p (suc m)) e in (suc r.0, raise r.0 k r.1, (pos m, r.2))
    where
      raise : (j k : ℕ) → j ≤ k → suc j ≤ suc k
      raise j k h = omega arith

      pos : (m : ℕ) → 0 < suc m
      pos m = omega arith

  no_both : {A : Type 0} (m : ℕ) → m ≡ 0 → 0 < m → A
  no_both m e h = absurd (omega arith)

  pub height_unique : (i j m : ℕ) → Height i m → Height j m → i ≡ j
  height_unique zero zero m h k = refl
  height_unique zero (suc j) m h (q, k) = no_both m h q
  height_unique (suc i) zero m (q, h) k = no_both m k q
  height_unique (suc i) (suc j) m (q, h) (q', k) = ap suc (height_unique i j (p m) h k)

  -- a marker on the way is no higher than its end
  on_the_way : (k m j x : ℕ) → Height j m → In x (0 ∷ climbed p k m) → (i : ℕ) × (i ≤ j) × Height i x
  on_the_way zero m j x h (inl e) = (0, omega arith, e)
  on_the_way zero m j x h (inr i) = absurd i
  on_the_way (suc k) zero j x h (inl e) = (0, omega arith, e)
  on_the_way (suc k) zero j x h (inr i) = absurd i
  on_the_way (suc k) (suc m) zero x h i = no_both (suc m) h (omega arith)
  on_the_way (suc k) (suc m) (suc j) x (q, h) i = ⊎_elim (λ b. before (on_the_way k (p (suc m)) j x h b)) last (in_append x (0 ∷ climbed p k (p (suc m))) (suc m ∷ []) i)
    where
      raise : (a : ℕ) → a ≤ j → a ≤ suc j
      raise a h = omega arith

      before : (i : ℕ) × (i ≤ j) × Height i x → (i : ℕ) × (i ≤ suc j) × Height i x
      before r = (r.0, raise r.0 r.1, r.2)

      last : In x (suc m ∷ []) → (i : ℕ) × (i ≤ suc j) × Height i x
      last i = (suc j, omega arith, subst (Height (suc j)) (sym (in_one x (suc m) i)) (q, h))

  -- the markers on the way are different
  pub climbed_different : (k m j : ℕ) → Height j m → Different (0 ∷ climbed p k m)
  climbed_different zero m j h = (λ i. i, tt)
  climbed_different (suc k) zero j h = (λ i. i, tt)
  climbed_different (suc k) (suc m) zero h = no_both (suc m) h (omega arith)
  climbed_different (suc k) (suc m) (suc j) (q, h) = different_push (0 ∷ climbed p k (p (suc m))) (suc m) (climbed_different k (p (suc m)) j h) new
    where
      lower : (i : ℕ) → i ≤ j → i ≡ suc j → ⊥
      lower i a b = omega arith

      new : In (suc m) (0 ∷ climbed p k (p (suc m))) → ⊥
      new i = let r = on_the_way k (p (suc m)) j (suc m) h i in lower r.0 r.1 (height_unique r.0 (suc j) (suc m) r.2 (q, h))

  climbed_length : (k m : ℕ) → Height k m → length (climbed p k m) ≡ k
  climbed_length zero m h = refl
  climbed_length (suc k) zero (q, h) = absurd (omega arith)
  climbed_length (suc k) (suc m) (q, h) = grown (climbed p k (p (suc m))) k (suc m) (climbed_length k (p (suc m)) h)
    where
      grown : (xs : List ℕ) (k m : ℕ) → length xs ≡ k → length (xs ++ (m ∷ [])) ≡ suc k
      grown xs k m e = rw length-append (omega arith)

  module _ (n : ℕ) (inside : (m : ℕ) → m < n → p m < n) where
    climbed_below : (k m : ℕ) → m < n → (x : ℕ) → In x (climbed p k m) → x < n
    climbed_below zero m h x i = absurd i
    climbed_below (suc k) zero h x i = absurd i
    climbed_below (suc k) (suc m) h x i = ⊎_elim (climbed_below k (p (suc m)) (inside (suc m) h) x) last (in_append x (climbed p k (p (suc m))) (suc m ∷ []) i)
      where
        last : In x (suc m ∷ []) → x < n
        last i = rw (in_one x (suc m) i) h

    -- so there are fewer than n climbs
    pub height_below : (k m : ℕ) → m < n → Height k m → k < n
    height_below k m h t = counted (climbed p k m) (climbed_length k m t) (pigeonhole n (0 ∷ climbed p k m) (climbed_different k m k t) below)
      where
        positive : 0 < n
        positive = omega arith

        below : (x : ℕ) → In x (0 ∷ climbed p k m) → x < n
        below x (inl e) = rw e positive
        below x (inr i) = climbed_below k m h x i

        counted : (xs : List ℕ) → length xs ≡ k → length (0 ∷ xs) ≤ n → k < n
        counted xs e h = omega arith

  pub climb_datum : p 0 ≡ 0 → (k : ℕ) → climb p k 0 ≡ 0
  climb_datum r zero = refl
  climb_datum r (suc k) = rw r (climb_datum r k)

  climb_more : p 0 ≡ 0 → (j k m : ℕ) → Height j m → j ≤ k → climb p k m ≡ 0
  climb_more r zero k m e h = rw e (climb_datum r k)
  climb_more r (suc j) zero m t h = absurd (omega arith)
  climb_more r (suc j) (suc k) m (q, t) h = climb_more r j k (p m) t (lower j k h)
    where
      lower : (j k : ℕ) → suc j ≤ suc k → j ≤ k
      lower j k h = omega arith

  -- what stands on a way are climbs
  pub on_way : (k m x : ℕ) → In x (climb p k m ∷ way p k m) → (i : ℕ) × (i ≤ k) × (x ≡ climb p i m)
  on_way zero m x (inl e) = (0, omega arith, e)
  on_way zero m x (inr i) = absurd i
  on_way (suc k) m x i = ⊎_elim (λ b. before (on_way k (p m) x b)) last (in_append x (climb p k (p m) ∷ way p k (p m)) (m ∷ []) i)
    where
      raise : (i : ℕ) → i ≤ k → suc i ≤ suc k
      raise i h = omega arith

      before : (i : ℕ) × (i ≤ k) × (x ≡ climb p i (p m)) → (i : ℕ) × (i ≤ suc k) × (x ≡ climb p i m)
      before (i, h, e) = (suc i, raise i h, e)

      last : In x (m ∷ []) → (i : ℕ) × (i ≤ suc k) × (x ≡ climb p i m)
      last l = (0, omega arith, in_one x m l)

  lower_height : p 0 ≡ 0 → (i h m : ℕ) → Height h m → (j : ℕ) × (j ≤ h) × Height j (climb p i m)
  lower_height r zero h m t = (h, omega arith, t)
  lower_height r (suc i) zero m t = (0, omega arith, rw t (climb_datum r (suc i)))
  lower_height r (suc i) (suc h) m (q, t) = raise (lower_height r i h (p m) t)
    where
      step : (j : ℕ) → j ≤ h → j ≤ suc h
      step j l = omega arith

      raise : (j : ℕ) × (j ≤ h) × Height j (climb p i (p m)) → (j : ℕ) × (j ≤ suc h) × Height j (climb p i (p m))
      raise (j, l, u) = (j, step j l, u)

  no_return : p 0 ≡ 0 → (i h m : ℕ) → 0 < m → Height h m → m ≡ climb p i (p m) → ⊥
  no_return r i zero m q t e = no_both m t q
  no_return r i (suc h) m q (q', t) e = at (lower_height r i h (p m) t)
    where
      clash : (j : ℕ) → j ≤ h → j ≡ suc h → ⊥
      clash j a b = omega arith

      at : (j : ℕ) × (j ≤ h) × Height j (climb p i (p m)) → ⊥
      at (j, l, u) = clash j l (height_unique j (suc h) m (rw e u) (q', t))

  pub way_different : p 0 ≡ 0 → (k m : ℕ) → ((i : ℕ) → i < k → (0 < climb p i m) × ((h : ℕ) × Height h (climb p i m))) → Different (climb p k m ∷ way p k m)
  way_different r zero m up = (λ i. i, tt)
  way_different r (suc k) m up =
      different_push (climb p k (p m) ∷ way p k (p m)) m (way_different r k (p m) (λ i h. up (suc i) (raise i h))) new
    where
      raise : (i : ℕ) → i < k → suc i < suc k
      raise i h = omega arith

      first : (0 < m) × ((h : ℕ) × Height h m)
      first = up 0 (omega arith)

      new : In m (climb p k (p m) ∷ way p k (p m)) → ⊥
      new i = let o = on_way k (p m) m i in no_return r o.0 first.1.0 m first.0 first.1.1 o.2

pub short_climbs : ShortClimbs
short_climbs n p root inside reach = record { root = root; inside = inside; climbs = climbs }
  where
    climbs : (m : ℕ) → m < n → climb p (n - 1) m ≡ 0
    climbs m h =
        let r = reach m h in
        let t = height_of p r.0 m r.1 in
        let b : t.0 < n = height_below p n inside t.0 m h t.2 in
        climb_more p root t.0 (n - 1) m t.2 (omega arith)

module _ (g : OrderedGroup) (n : ℕ) (w : ℕ → ℕ → Option g.carrier) (d : ℕ → g.carrier) (p : ℕ → ℕ) (fits : Fits g n w d) (inside : (m : ℕ) → m < n → p m < n) (tight : Tight g n w d p) where
  -- the way down the tree adds up to the depth
  pub climbed_walk : (k m : ℕ) → m < n → climb p k m ≡ 0 → Walk g n w 0 (climbed p k m) m (d m)
  climbed_walk zero m h e = (sym e, ap d e ∙ fits.datum)
  climbed_walk (suc k) zero h e = (refl, fits.datum)
  climbed_walk (suc k) (suc m) h e = pushed (tight (suc m) (omega arith) h) (climbed_walk k (p (suc m)) (inside (suc m) h) e)
    where
      pushed : (c : g.carrier) × Edge g n w (p (suc m)) (suc m) c × (d (suc m) ≡ g.plus (d (p (suc m))) c) → Walk g n w 0 (climbed p k (p (suc m))) (p (suc m)) (d (p (suc m))) → Walk g n w 0 (climbed p (suc k) (suc m)) (suc m) (d (suc m))
      pushed (c, edge, e) walk = rw e (walk_push g n w 0 (climbed p k (p (suc m))) (p (suc m)) (d (p (suc m))) (suc m) c walk edge)

pub certificate : (g : OrderedGroup) → Certificate g
certificate g n w d p solved = record {
  shortest = record {
    tree = tree;
    paths = λ m h. (refl, walk m h, different m h);
    distances = λ m h. record { markers = climbed p (n - 1) m; walked = walk m h; least = λ ms s k. at_most g n w d fits ms m s k };
  };
  deepest = λ m h e f. at_most g n w e f (climbed p (n - 1) m) m (d m) (walk m h);
}
  where
    fits : Fits g n w d
    fits = solved.fits

    tree : Tree n p
    tree = solved.tree

    walk : (m : ℕ) → m < n → Walk g n w 0 (climbed p (n - 1) m) m (d m)
    walk m h = climbed_walk g n w d p fits tree.inside solved.tight (n - 1) m h (tree.climbs m h)

    different : (m : ℕ) → m < n → Different (0 ∷ climbed p (n - 1) m)
    different m h = let t = height_of p (n - 1) m (tree.climbs m h) in climbed_different p (n - 1) m t.0 t.2

module _ (g : OrderedGroup) (n : ℕ) (w : Weight g) where
  -- the last step of a walk
  record Last (x : ℕ) (ms : List ℕ) (m y : ℕ) (s : g.carrier) : Type 0 where
    before : ℕ
    sum : g.carrier
    amount : g.carrier
    walk : Walk g n w x ms before sum
    edge : Edge g n w before m amount
    there : m ≡ y
    adds : s ≡ g.plus sum amount

  last_step : (x : ℕ) (ms : List ℕ) (m y : ℕ) (s : g.carrier) → Walk g n w x (ms ++ (m ∷ [])) y s → Last x ms m y s
  last_step x [] m y s (c, r, edge, (e, z), k) = record {
    before = x;
    sum = g.neutral;
    amount = c;
    walk = (refl, refl);
    edge = edge;
    there = e;
    adds = k ∙ ap (g.plus c) z ∙ g.comm c g.neutral;
  }
  last_step x (u ∷ ms) m y s (c, r, edge, rest, k) = at (last_step u ms m y r rest)
    where
      at : Last u ms m y r → Last x (u ∷ ms) m y s
      at l = record {
        before = l.before;
        sum = g.plus c l.sum;
        amount = l.amount;
        walk = (c, l.sum, edge, l.walk, refl);
        edge = l.edge;
        there = l.there;
        adds = k ∙ ap (g.plus c) l.adds ∙ sym (g.assoc c l.sum l.amount);
      }

  -- a walk down the tree ends where it has to
  ends_there : (p : ℕ → ℕ) (k z u : ℕ) (t : g.carrier) → climb p k z ≡ 0 → Walk g n w 0 (climbed p k z) u t → u ≡ z
  ends_there p zero z u t e walk = sym walk.0 ∙ sym e
  ends_there p (suc k) zero u t e walk = sym walk.0
  ends_there p (suc k) (suc z) u t e walk = sym (last_step 0 (climbed p k (p (suc z))) (suc z) u t walk).there

  at_datum : (p : ℕ → ℕ) (k : ℕ) (s : g.carrier) → Walk g n w 0 (climbed p k 0) 0 s → s ≡ g.neutral
  at_datum p zero s walk = walk.1
  at_datum p (suc k) s walk = walk.1

  module _ (d : ℕ → g.carrier) (p : ℕ → ℕ) (spt : ShortestPathTree g n w d p) where
    keeps : (a b : ℕ) (c : g.carrier) → Edge g n w a b c → g.le (d b) (g.plus (d a) c)
    keeps a b c edge =
        let to = spt.distances a edge.0 in
        (spt.distances b edge.1).least (to.markers ++ (b ∷ [])) (g.plus (d a) c) (walk_push g n w 0 to.markers a (d a) b c to.walked edge)

    -- of the path to m, whose last edge leaves u
    tight_by : (k m : ℕ) → 0 < m → m < n → climb p k (p m) ≡ 0 → Last 0 (climbed p k (p m)) m m (d m)
        → (c : g.carrier) × Edge g n w (p m) m c × (d m ≡ g.plus (d (p m)) c)
    tight_by k m pos h e l = (l.amount, edge, l.adds ∙ ap (λ x. g.plus x l.amount) same)
      where
        there : l.before ≡ p m
        there = ends_there p k (p m) l.before l.sum e l.walk

        edge : Edge g n w (p m) m l.amount
        edge = subst (λ u. Edge g n w u m l.amount) there l.edge

        least : g.le (d (p m)) l.sum
        least = (spt.distances (p m) edge.0).least (climbed p k (p m)) l.sum (subst (λ u. Walk g n w 0 (climbed p k (p m)) u l.sum) there l.walk)

        same : l.sum ≡ d (p m)
        same = g.le_antisym l.sum (d (p m)) (cancel g l.sum (d (p m)) l.amount (subst (λ x. g.le x (g.plus (d (p m)) l.amount)) l.adds (keeps (p m) m l.amount edge))) least

    tight_at : (k m : ℕ) → 0 < m → m < n → climb p k m ≡ 0 → Walk g n w 0 (climbed p k m) m (d m)
        → (c : g.carrier) × Edge g n w (p m) m c × (d m ≡ g.plus (d (p m)) c)
    tight_at zero m pos h e walk = absurd (omega arith)
    tight_at (suc k) zero pos h e walk = absurd (omega arith)
    tight_at (suc k) (suc m) pos h e walk = tight_by k (suc m) pos h e (last_step 0 (climbed p k (p (suc m))) (suc m) (suc m) (d (suc m)) walk)

    pub solved_of : 0 < n → Solved g n w d p
    solved_of some = record {
      fits = record { datum = at_datum p (n - 1) (d 0) (spt.paths 0 some).1; keeps = keeps };
      tree = spt.tree;
      tight = λ m pos h. tight_at (n - 1) m pos h (spt.tree.climbs m h) (spt.paths m h).1;
    }

pub certifiable : (g : OrderedGroup) → Certifiable g
certifiable g n w d p some spt = solved_of g n w d p spt some

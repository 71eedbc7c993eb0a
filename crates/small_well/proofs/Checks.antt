-- Tests that compute, and what each shows: a table is a shortest-path tree, a path is kept, a cycle adds up. Assumes nothing.
use Rattle.std.proofs.Common.{◌≡◌, ℕ, zero, suc, ◌-◌, ◌<◌, Bool, true, false, not, ◌&&◌, ◌||◌, eqb, ltb, ◌⊎◌, List, [], ◌∷◌, ◌++◌, sym, refl, ap, ◌∙◌, subst, inl, inr, ⊎_elim, arith}
use mathlib.Core.Option.{Option, none, some}
use Rattle.std.proofs.lemmas.Bool.{and_cases, and_parts, cases_eq, eq-eqb, eqb-true, ltb-true, not-true, or_cases, true≢false}
use Rattle.measure.specs.declared.Amount.{Amount}
use Rattle.measure.specs.declared.Measure as measure
use Rattle.measure.specs.Group.{OrderedGroup}
use Rattle.measure.specs.Least.{first_of}
use Rattle.graph.specs.Graph.{In, Different, Edge, Walk, Cycle, Fits, PathTo}
use Rattle.graph.specs.Theorems.{Solved}
use Rattle.graph.specs.Tree.{climb, climbed, Tree, Tight}
use Rattle.law.specs.Standing.{Standing, bounds}
use Rattle.law.specs.Calls.{Model, path, TableOf, Keeps}
use Rattle.law.proofs.Tables.{table_of}

-- the test holds of each number below n
abbrev pub all : ℕ → (ℕ → Bool) → Bool
all zero f = true
all (suc n) f = f n && all n f

pub all_at : (n : ℕ) (f : ℕ → Bool) → all n f ≡ true → (k : ℕ) → k < n → f k ≡ true
all_at zero f h k l = absurd (omega arith)
all_at (suc n) f h k l = let p = and_parts (f n) (all n f) h in by p.0 (all_at n f p.1 k) (cases_eq k n)
  where
    below_last : (k n : ℕ) → k < suc n → (k ≡ n → ⊥) → k < n
    below_last k n h ne = omega arith

    by : f n ≡ true → (k < n → f k ≡ true) → (k ≡ n) ⊎ (k ≡ n → ⊥) → f k ≡ true
    by last before (inl e) = ap f e ∙ last
    by last before (inr ne) = before (below_last k n l ne)

abbrev pub same_list : List ℕ → List ℕ → Bool
same_list [] [] = true
same_list [] (y ∷ ys) = false
same_list (x ∷ xs) [] = false
same_list (x ∷ xs) (y ∷ ys) = eqb x y && same_list xs ys

pub same_list_is : (xs ys : List ℕ) → same_list xs ys ≡ true → xs ≡ ys
same_list_is [] [] h = refl
same_list_is [] (y ∷ ys) h = absurd (true≢false (sym h))
same_list_is (x ∷ xs) [] h = absurd (true≢false (sym h))
same_list_is (x ∷ xs) (y ∷ ys) h = let p = and_parts (eqb x y) (same_list xs ys) h in heads x y xs ys (eqb-true x y p.0) (same_list_is xs ys p.1)
  where
    heads : (x y : ℕ) (xs ys : List ℕ) → x ≡ y → xs ≡ ys → (x ∷ xs) ≡ (y ∷ ys)
    heads x y xs ys p q = cc

abbrev pub isnt : ℕ → List ℕ → Bool
isnt x [] = true
isnt x (y ∷ ys) = not (eqb x y) && isnt x ys

abbrev pub distinct : List ℕ → Bool
distinct [] = true
distinct (x ∷ xs) = isnt x xs && distinct xs

isnt_in : (x : ℕ) (ys : List ℕ) → isnt x ys ≡ true → ¬ In x ys
isnt_in x [] h i = i
isnt_in x (y ∷ ys) h (inl e) = true≢false (sym (eq-eqb x y e) ∙ not-true (eqb x y) (and_parts (not (eqb x y)) (isnt x ys) h).0)
isnt_in x (y ∷ ys) h (inr i) = isnt_in x ys (and_parts (not (eqb x y)) (isnt x ys) h).1 i

pub distinct_is : (xs : List ℕ) → distinct xs ≡ true → Different xs
distinct_is [] h = tt
distinct_is (x ∷ xs) h = let p = and_parts (isnt x xs) (distinct xs) h in (isnt_in x xs p.0, distinct_is xs p.1)

module _ (g : OrderedGroup) where
  abbrev pub le? : g.carrier → g.carrier → Bool
  le? x y = first_of (g.le_total x y) true false

  le_is : (x y : g.carrier) → le? x y ≡ true → g.le x y
  le_is x y h = by (g.le_total x y) h
    where
      by : (s : g.le x y ⊎ (g.le y x × (g.le x y → ⊥))) → first_of s true false ≡ true → g.le x y
      by (inl p) h = p
      by (inr p) h = absurd (true≢false (sym h))

  le_isnt : (x y : g.carrier) → le? x y ≡ false → g.le x y → ⊥
  le_isnt x y h = by (g.le_total x y) h
    where
      by : (s : g.le x y ⊎ (g.le y x × (g.le x y → ⊥))) → first_of s true false ≡ false → g.le x y → ⊥
      by (inl p) h = absurd (true≢false h)
      by (inr p) h = p.1

  abbrev pub same? : g.carrier → g.carrier → Bool
  same? x y = le? x y && le? y x

  same_is : (x y : g.carrier) → same? x y ≡ true → x ≡ y
  same_is x y h = let p = and_parts (le? x y) (le? y x) h in g.le_antisym x y (le_is x y p.0) (le_is y x p.1)

  pub same_isnt : (x y : g.carrier) → same? x y ≡ false → x ≡ y → ⊥
  same_isnt x y h e = ⊎_elim (λ p. le_isnt x y p (rw e (g.le_refl y))) (λ p. le_isnt y x p (rw e (g.le_refl y))) (and_cases (le? x y) (le? y x) h)

  module _ (n : ℕ) (w : ℕ → ℕ → Option g.carrier) where
    -- depths
    abbrev pub keeps? : Option g.carrier → g.carrier → g.carrier → Bool
    keeps? none x y = true
    keeps? (some c) x y = le? y (g.plus x c)

    abbrev pub fits? : (ℕ → g.carrier) → Bool
    fits? d = same? (d 0) g.neutral && all n (λ a. all n (λ b. keeps? (w a b) (d a) (d b)))

    keeps_is : (o : Option g.carrier) (x y c : g.carrier) → keeps? o x y ≡ true → o ≡ some c → g.le y (g.plus x c)
    keeps_is none x y c h e = let z : ◌≡◌ {A = ℕ} 0 1 = cc in absurd (omega arith)
    keeps_is (some b) x y c h e = subst (λ z. g.le y (g.plus x z)) (inner b c e) (le_is y (g.plus x b) h)
      where
        inner : (b c : g.carrier) → some b ≡ some c → b ≡ c
        inner b c e = cc

    pub fits_is : (d : ℕ → g.carrier) → fits? d ≡ true → Fits g n w d
    fits_is d h =
        let p = and_parts (same? (d 0) g.neutral) (all n (λ a. all n (λ b. keeps? (w a b) (d a) (d b)))) h in
        record {
          datum = same_is (d 0) g.neutral p.0;
          keeps = λ a b c e. keeps_is (w a b) (d a) (d b) c (all_at n (λ b. keeps? (w a b) (d a) (d b)) (all_at n (λ a. all n (λ b. keeps? (w a b) (d a) (d b))) p.1 a e.0) b e.1) e.2;
        }

    -- parents
    abbrev pub tree? : (ℕ → ℕ) → Bool
    tree? p = eqb (p 0) 0 && (all n (λ m. ltb (p m) n) && all n (λ m. eqb (climb p (n - 1) m) 0))

    pub tree_is : (p : ℕ → ℕ) → tree? p ≡ true → Tree n p
    tree_is p h =
        let a = and_parts (eqb (p 0) 0) (all n (λ m. ltb (p m) n) && all n (λ m. eqb (climb p (n - 1) m) 0)) h in
        let b = and_parts (all n (λ m. ltb (p m) n)) (all n (λ m. eqb (climb p (n - 1) m) 0)) a.1 in
        record {
          root = eqb-true (p 0) 0 a.0;
          inside = λ m l. ltb-true (p m) n (all_at n (λ m. ltb (p m) n) b.0 m l);
          climbs = λ m l. eqb-true (climb p (n - 1) m) 0 (all_at n (λ m. eqb (climb p (n - 1) m) 0) b.1 m l);
        }

    abbrev pub meets? : Option g.carrier → g.carrier → g.carrier → Bool
    meets? none x y = false
    meets? (some c) x y = same? y (g.plus x c)

    abbrev pub tight? : (ℕ → g.carrier) → (ℕ → ℕ) → Bool
    tight? d p = all n (λ m. eqb m 0 || meets? (w (p m) m) (d (p m)) (d m))

    meets_is : (o : Option g.carrier) (x y : g.carrier) → meets? o x y ≡ true → (c : g.carrier) × (o ≡ some c) × (y ≡ g.plus x c)
    meets_is none x y h = absurd (true≢false (sym h))
    meets_is (some c) x y h = (c, refl, same_is y (g.plus x c) h)

    pub tight_is : (d : ℕ → g.carrier) (p : ℕ → ℕ) → Tree n p → tight? d p ≡ true → Tight g n w d p
    tight_is d p t h m pos l = at (or_cases (eqb m 0) (meets? (w (p m) m) (d (p m)) (d m)) (all_at n (λ m. eqb m 0 || meets? (w (p m) m) (d (p m)) (d m)) h m l))
      where
        at : (eqb m 0 ≡ true) ⊎ (meets? (w (p m) m) (d (p m)) (d m) ≡ true) → (c : g.carrier) × Edge g n w (p m) m c × (d m ≡ g.plus (d (p m)) c)
        at (inl e) = let z = eqb-true m 0 e in absurd (omega arith)
        at (inr e) = let r = meets_is (w (p m) m) (d (p m)) (d m) e in (r.0, (t.inside m l, l, r.1), r.2)

    -- sums of walks
    abbrev pub add : Option g.carrier → Option g.carrier → Option g.carrier
    add none o = none
    add (some c) none = none
    add (some c) (some r) = some (g.plus c r)

    abbrev pub sum_of : ℕ → List ℕ → Option g.carrier
    sum_of x [] = some g.neutral
    sum_of x (m ∷ ms) = add (w x m) (sum_of m ms)

    pub walk_sum : (x : ℕ) (ms : List ℕ) (y : ℕ) (s : g.carrier) → Walk g n w x ms y s → sum_of x ms ≡ some s
    walk_sum x [] y s (e, z) = ap some (sym z)
    walk_sum x (m ∷ ms) y s (c, r, edge, rest, e) = joined (w x m) (sum_of m ms) c r s edge.2 (walk_sum m ms y r rest) e
      where
        joined : (o p : Option g.carrier) (c r s : g.carrier) → o ≡ some c → p ≡ some r → s ≡ g.plus c r → add o p ≡ some s
        joined o p c r s a b e = rw (a, b, e) refl

    abbrev pub is? : Option g.carrier → g.carrier → Bool
    is? none x = false
    is? (some s) x = same? s x

    isnt_is : (o : Option g.carrier) (s x : g.carrier) → is? o x ≡ false → o ≡ some s → s ≡ x → ⊥
    isnt_is none s x h e f = let z : ◌≡◌ {A = ℕ} 0 1 = cc in omega arith
    isnt_is (some t) s x h e f = same_isnt t x h (inner t s e ∙ f)
      where
        inner : (b c : g.carrier) → some b ≡ some c → b ≡ c
        inner b c e = cc

    -- a path is kept, or does not add up
    pub kept_is : (ms new : List ℕ) (k : ℕ) (x : g.carrier) → (same_list new (0 ∷ ms) || not (is? (sum_of 0 ms) x)) ≡ true
        → PathTo g n w (0 ∷ ms) k x → new ≡ (0 ∷ ms)
    kept_is ms new k x h (z, walk, d) = at (or_cases (same_list new (0 ∷ ms)) (not (is? (sum_of 0 ms) x)) h)
      where
        at : (same_list new (0 ∷ ms) ≡ true) ⊎ (not (is? (sum_of 0 ms) x) ≡ true) → new ≡ (0 ∷ ms)
        at (inl e) = same_list_is new (0 ∷ ms) e
        at (inr e) = absurd (isnt_is (sum_of 0 ms) x x (not-true (is? (sum_of 0 ms) x) e) (walk_sum 0 ms k x walk) refl)

    -- a list of markers is a walk
    abbrev pub walk? : ℕ → List ℕ → ℕ → Bool
    walk? x [] y = eqb x y
    walk? x (m ∷ ms) y = ltb x n && (ltb m n && walk? m ms y)

    record Split (o p : Option g.carrier) (s : g.carrier) : Type 0 where
      c : g.carrier
      r : g.carrier
      first : o ≡ some c
      rest : p ≡ some r
      whole : s ≡ g.plus c r

    split : (o p : Option g.carrier) (s : g.carrier) → add o p ≡ some s → Split o p s
    split none p s h = let z : ◌≡◌ {A = ℕ} 0 1 = cc in absurd (omega arith)
    split (some c) none s h = let z : ◌≡◌ {A = ℕ} 0 1 = cc in absurd (omega arith)
    split (some c) (some r) s h = record { c = c; r = r; first = refl; rest = refl; whole = inner s (g.plus c r) h }
      where
        inner : (s t : g.carrier) → some t ≡ some s → s ≡ t
        inner s t e = cc

    walk_is : (x : ℕ) (ms : List ℕ) (y : ℕ) (s : g.carrier) → walk? x ms y ≡ true → sum_of x ms ≡ some s → Walk g n w x ms y s
    walk_is x [] y s h e = (eqb-true x y h, inner s g.neutral e)
      where
        inner : (s t : g.carrier) → some t ≡ some s → s ≡ t
        inner s t e = cc
    walk_is x (m ∷ ms) y s h e =
        let a = and_parts (ltb x n) (ltb m n && walk? m ms y) h in
        let b = and_parts (ltb m n) (walk? m ms y) a.1 in
        let t = split (w x m) (sum_of m ms) s e in
        (t.c, t.r, (ltb-true x n a.0, ltb-true m n b.0, t.first), walk_is m ms y t.r b.1 t.rest, t.whole)

    pub cycle_is : (x y : ℕ) (ys : List ℕ) (s : g.carrier) → distinct (x ∷ y ∷ ys) ≡ true → walk? x (y ∷ (ys ++ (x ∷ []))) x ≡ true
        → sum_of x (y ∷ (ys ++ (x ∷ []))) ≡ some s → Cycle g n w (x ∷ y ∷ ys) s
    cycle_is x y ys s h k e = (distinct_is (x ∷ y ∷ ys) h, walk_is x (y ∷ (ys ++ (x ∷ []))) x s k e)

module _ {M : Type 0} (μ : measure.Ghosts M) (sized? : Amount → Bool) (sized_is : (a : Amount) → sized? a ≡ true → μ.within 256 a) where
  abbrev pub table? : Standing → (ℕ → Amount) → (ℕ → ℕ) → Bool
  table? s d p =
      ltb 0 s.count
      && (fits? μ.group s.count (bounds μ s) (λ k. μ.value (d k))
      && (tree? μ.group s.count (bounds μ s) p
      && (tight? μ.group s.count (bounds μ s) (λ k. μ.value (d k)) p && all s.count (λ k. sized? (d k)))))

  pub table_is : (s : Standing) (d : ℕ → Amount) (p : ℕ → ℕ) → table? s d p ≡ true → TableOf μ s d p
  table_is s d p h =
      let o = and_parts (ltb 0 s.count) _ h in
      let a = and_parts (fits? μ.group s.count (bounds μ s) (λ k. μ.value (d k))) _ o.1 in
      let b = and_parts (tree? μ.group s.count (bounds μ s) p) _ a.1 in
      let c = and_parts (tight? μ.group s.count (bounds μ s) (λ k. μ.value (d k)) p) (all s.count (λ k. sized? (d k))) b.1 in
      let t = tree_is μ.group s.count (bounds μ s) p b.0 in
      let v : Solved μ.group s.count (bounds μ s) (λ k. μ.value (d k)) p = record {
        fits = fits_is μ.group s.count (bounds μ s) (λ k. μ.value (d k)) a.0;
        tree = t;
        tight = tight_is μ.group s.count (bounds μ s) (λ k. μ.value (d k)) p t c.0;
      } in
      table_of μ s d p (ltb-true 0 s.count o.0) v (λ k l. sized_is (d k) (all_at s.count (λ k. sized? (d k)) c.1 k l))

  abbrev pub kept? : Model → Model → Bool
  kept? m m' =
      all m'.standing.count (λ k. same_list (path m' k) (path m k)
      || not (is? μ.group m'.standing.count (bounds μ m'.standing) (sum_of μ.group m'.standing.count (bounds μ m'.standing) 0 (climbed m.parent (m.standing.count - 1) k)) (μ.value (m'.depth k))))

  pub keeps_by : (m m' : Model) → kept? m m' ≡ true → Keeps μ m m'
  keeps_by m m' h k l q =
      kept_is μ.group m'.standing.count (bounds μ m'.standing) (climbed m.parent (m.standing.count - 1) k) (path m' k) k (μ.value (m'.depth k))
      (all_at m'.standing.count _ h k l) q

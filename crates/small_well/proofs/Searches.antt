-- All parents and all cycles of four markers, tried one by one. Assumes nothing.
use Rattle.std.proofs.Common.{◌≡◌, ℕ, zero, suc, ◌-◌, ◌<◌, ◌≤◌, Bool, true, false, not, ◌&&◌, ◌||◌, eqb, ltb, ◌⊎◌, List, [], ◌∷◌, ◌++◌, length, get_or, sym, refl, ap, ◌∙◌, subst, inl, inr, arith}
use mathlib.Core.Option.{Option, none, some}
use Rattle.std.proofs.lemmas.Bool.{and_from, and_parts, cases_Bool, eq-eqb, lt-ltb, ne_eqb, not_from_false, not_from_true, or_cases, or_right, true≢false}
use Rattle.measure.specs.Group.{OrderedGroup, Lt}
use Rattle.measure.specs.Least.{first_of}
use Rattle.graph.specs.Graph.{In, Different, Walk, Weight, Cycle}
use Rattle.graph.specs.Tree.{climb, Tree, Tight}
use Rattle.graph.proofs.Lists.{in_left, pigeonhole}
use Rattle.law.specs.Calls.{BeginsWith, EndsWith}
use Rattle.small_well.proofs.Checks.{all, all_at, same_list, same_list_is, isnt, distinct, le?, same?, same_isnt, tree?, meets?, tight?, sum_of, walk_sum}

all_true : (n : ℕ) (f : ℕ → Bool) → ((k : ℕ) → k < n → f k ≡ true) → all n f ≡ true
all_true zero f h = refl
all_true (suc n) f h = and_from (f n) (all n f) (h n (omega arith)) (all_true n f (λ k l. h k (wider k n l)))
  where
    wider : (k n : ℕ) → k < n → k < suc n
    wider k n l = omega arith

pub below_four : (P : ℕ → Type 0) → P 0 → P 1 → P 2 → P 3 → (k : ℕ) → k < 4 → P k
below_four P a b c d zero h = a
below_four P a b c d (suc zero) h = b
below_four P a b c d (suc (suc zero)) h = c
below_four P a b c d (suc (suc (suc zero))) h = d
below_four P a b c d (suc (suc (suc (suc k)))) h = absurd (far k h)
  where
    far : (k : ℕ) → suc (suc (suc (suc k))) < 4 → ⊥
    far k h = omega arith

climb_same : (n : ℕ) (p q : ℕ → ℕ) → ((k : ℕ) → k < n → p k < n) → ((k : ℕ) → k < n → p k ≡ q k) → (j m : ℕ) → m < n → climb p j m ≡ climb q j m
climb_same n p q inside same zero m h = refl
climb_same n p q inside same (suc j) m h = climb_same n p q inside same j (p m) (inside m h) ∙ ap (climb q j) (same m h)

-- every list of at most k numbers below n passes the test
abbrev pub every : ℕ → ℕ → (List ℕ → Bool) → Bool
every n zero f = f []
every n (suc k) f = f [] && all n (λ x. every n k (λ xs. f (x ∷ xs)))

every_at : (n k : ℕ) (f : List ℕ → Bool) → every n k f ≡ true → (xs : List ℕ) → length xs ≤ k → ((x : ℕ) → In x xs → x < n) → f xs ≡ true
every_at n zero f h [] l inside = h
every_at n zero f h (x ∷ xs) l inside = absurd (omega arith)
every_at n (suc k) f h [] l inside = (and_parts (f []) (all n (λ x. every n k (λ xs. f (x ∷ xs)))) h).0
every_at n (suc k) f h (x ∷ xs) l inside =
    every_at n k (λ ys. f (x ∷ ys)) (all_at n (λ x. every n k (λ xs. f (x ∷ xs))) (and_parts (f []) (all n (λ x. every n k (λ xs. f (x ∷ xs)))) h).1 x (inside x (inl refl)))
    xs (shorter (length xs) k l) (λ y i. inside y (inr i))
  where
    shorter : (a b : ℕ) → suc a ≤ suc b → a ≤ b
    shorter a b h = omega arith

isnt_yes : (x : ℕ) (ys : List ℕ) → ¬ In x ys → isnt x ys ≡ true
isnt_yes x [] n = refl
isnt_yes x (y ∷ ys) n = and_from (not (eqb x y)) (isnt x ys) (not_from_false (eqb x y) (ne_eqb x y (λ e. n (inl e)))) (isnt_yes x ys (λ i. n (inr i)))

distinct_yes : (xs : List ℕ) → Different xs → distinct xs ≡ true
distinct_yes [] d = refl
distinct_yes (x ∷ xs) (n, d) = and_from (isnt x xs) (distinct xs) (isnt_yes x xs n) (distinct_yes xs d)

abbrev pub ends? : ℕ → List ℕ → Bool
ends? a [] = false
ends? a (x ∷ []) = eqb x a
ends? a (x ∷ y ∷ ms) = ends? a (y ∷ ms)

ends_yes : (a : ℕ) (ms : List ℕ) → EndsWith a ms → ends? a ms ≡ true
ends_yes a [] e = absurd e
ends_yes a (x ∷ []) e = eq-eqb x a e
ends_yes a (x ∷ y ∷ ms) e = ends_yes a (y ∷ ms) e

module _ (g : OrderedGroup) where
  same_yes : (x y : g.carrier) → x ≡ y → same? g x y ≡ true
  same_yes x y e = by (cases_Bool (same? g x y))
    where
      by : (same? g x y ≡ true) ⊎ (same? g x y ≡ false) → same? g x y ≡ true
      by (inl h) = h
      by (inr h) = absurd (same_isnt g x y h e)

  abbrev pub negative? : Option g.carrier → Bool
  negative? none = false
  negative? (some s) = not (le? g g.neutral s)

  negative_yes : (o : Option g.carrier) (s : g.carrier) → o ≡ some s → Lt g s g.neutral → negative? o ≡ true
  negative_yes o s e below = ap negative? e ∙ not_from_false (le? g g.neutral s) (by (g.le_total g.neutral s))
    where
      by : (t : g.le g.neutral s ⊎ (g.le s g.neutral × (g.le g.neutral s → ⊥))) → first_of t true false ≡ false
      by (inl h) = absurd (below h)
      by (inr h) = refl

  module _ (n : ℕ) (w : Weight g) where
    tree_yes : (p : ℕ → ℕ) → Tree n p → tree? g n w p ≡ true
    tree_yes p t =
        and_from (eqb (p 0) 0) _ (eq-eqb (p 0) 0 t.root)
        (and_from (all n (λ m. ltb (p m) n)) (all n (λ m. eqb (climb p (n - 1) m) 0))
        (all_true n (λ m. ltb (p m) n) (λ m l. lt-ltb (p m) n (t.inside m l)))
        (all_true n (λ m. eqb (climb p (n - 1) m) 0) (λ m l. eq-eqb (climb p (n - 1) m) 0 (t.climbs m l))))

    meets_yes : (o : Option g.carrier) (x y c : g.carrier) → o ≡ some c → y ≡ g.plus x c → meets? g n w o x y ≡ true
    meets_yes o x y c e h = ap (λ z. meets? g n w z x y) e ∙ same_yes y (g.plus x c) h

    tight_yes : (d : ℕ → g.carrier) (p : ℕ → ℕ) → Tight g n w d p → tight? g n w d p ≡ true
    tight_yes d p t = all_true n (λ m. eqb m 0 || meets? g n w (w (p m) m) (d (p m)) (d m)) at
      where
        at : (m : ℕ) → m < n → (eqb m 0 || meets? g n w (w (p m) m) (d (p m)) (d m)) ≡ true
        at zero l = refl
        at (suc m) l = let r = t (suc m) (omega arith) l in or_right (eqb (suc m) 0) _ (meets_yes (w (p (suc m)) (suc m)) (d (p (suc m))) (d (suc m)) r.0 r.1.2 r.2)

    walk_in : (x : ℕ) (ms : List ℕ) (y : ℕ) (s : g.carrier) → Walk g n w x ms y s → (z : ℕ) → In z ms → z < n
    walk_in x [] y s walk z i = absurd i
    walk_in x (m ∷ ms) y s (c, r, edge, rest, e) z (inl i) = subst (λ k. k < n) (sym i) edge.1
    walk_in x (m ∷ ms) y s (c, r, edge, rest, e) z (inr i) = walk_in m ms y r rest z i

    -- a cycle from b to a that adds up to less than zero
    abbrev pub clashes? : ℕ → ℕ → List ℕ → Bool
    clashes? b a [] = false
    clashes? b a (x ∷ []) = false
    clashes? b a (x ∷ y ∷ ms) = (eqb x b && ends? a (y ∷ ms)) && (distinct (x ∷ y ∷ ms) && negative? (sum_of g n w x (y ∷ (ms ++ (x ∷ [])))))

    clashes_yes : (b a : ℕ) (ms : List ℕ) (s : g.carrier) → Cycle g n w ms s → BeginsWith b ms → EndsWith a ms → Lt g s g.neutral → clashes? b a ms ≡ true
    clashes_yes b a [] s r begins ends below = absurd r
    clashes_yes b a (x ∷ []) s r begins ends below = absurd r
    clashes_yes b a (x ∷ y ∷ ms) s (d, walk) begins ends below =
        and_from (eqb x b && ends? a (y ∷ ms)) _ (and_from (eqb x b) (ends? a (y ∷ ms)) (eq-eqb x b begins) (ends_yes a (y ∷ ms) ends))
        (and_from (distinct (x ∷ y ∷ ms)) _ (distinct_yes (x ∷ y ∷ ms) d) (negative_yes _ s (walk_sum g n w x (y ∷ (ms ++ (x ∷ []))) x s walk) below))

    inside : (ms : List ℕ) (s : g.carrier) → Cycle g n w ms s → (z : ℕ) → In z ms → z < n
    inside [] s r z i = absurd i
    inside (x ∷ []) s r z i = absurd r
    inside (x ∷ y ∷ ms) s (d, walk) z (inl i) = subst (λ k. k < n) (sym i) walk.2.0
    inside (x ∷ y ∷ ms) s (d, walk) z (inr i) = walk_in x (y ∷ (ms ++ (x ∷ []))) x s walk z (in_left z (y ∷ ms) (x ∷ []) i)

    different : (ms : List ℕ) (s : g.carrier) → Cycle g n w ms s → Different ms
    different [] s r = tt
    different (x ∷ []) s r = absurd r
    different (x ∷ y ∷ ms) s r = r.0

    -- no list but this one is such a cycle
    abbrev pub only? : ℕ → ℕ → List ℕ → Bool
    only? b a found = every n n (λ ms. not (clashes? b a ms) || same_list ms found)

    pub only_cycle : (b a : ℕ) (found ms : List ℕ) (s : g.carrier) → only? b a found ≡ true
        → Cycle g n w ms s → BeginsWith b ms → EndsWith a ms → Lt g s g.neutral → ms ≡ found
    only_cycle b a found ms s h cycle begins ends below =
        by (or_cases (not (clashes? b a ms)) (same_list ms found)
        (every_at n n (λ ms. not (clashes? b a ms) || same_list ms found) h ms (pigeonhole n ms (different ms s cycle) (inside ms s cycle)) (inside ms s cycle)))
      where
        by : (not (clashes? b a ms) ≡ true) ⊎ (same_list ms found ≡ true) → ms ≡ found
        by (inl e) = absurd (true≢false (sym e ∙ not_from_true (clashes? b a ms) (clashes_yes b a ms s cycle begins ends below)))
        by (inr e) = same_list_is ms found e

  module _ (w : Weight g) (e : ℕ → g.carrier) where
    abbrev pub fits_tree? : List ℕ → Bool
    fits_tree? ps = tree? g 4 w (λ k. get_or ps k 0) && tight? g 4 w e (λ k. get_or ps k 0)

    -- no parents but these make a tree of tight edges
    abbrev pub parents? : List ℕ → Bool
    parents? found = all 4 (λ a. all 4 (λ b. all 4 (λ c. not (fits_tree? (0 ∷ a ∷ b ∷ c ∷ [])) || same_list (0 ∷ a ∷ b ∷ c ∷ []) found)))

    pub only_parents : (found : List ℕ) (d : ℕ → g.carrier) (p : ℕ → ℕ) → parents? found ≡ true → Tree 4 p → Tight g 4 w d p
        → ((k : ℕ) → k < 4 → d k ≡ e k) → (k : ℕ) → k < 4 → p k ≡ get_or found k 0
    only_parents found d p h t tight depths k l = same k l ∙ ap (λ ps. get_or ps k 0) is
      where
        ps : List ℕ
        ps = 0 ∷ p 1 ∷ p 2 ∷ p 3 ∷ []

        same : (k : ℕ) → k < 4 → p k ≡ get_or ps k 0
        same = below_four (λ k. p k ≡ get_or ps k 0) t.root refl refl refl

        tree : Tree 4 (λ k. get_or ps k 0)
        tree = record {
          root = refl;
          inside = λ m l. subst (λ z. z < 4) (same m l) (t.inside m l);
          climbs = λ m l. sym (climb_same 4 p (λ k. get_or ps k 0) t.inside same 3 m l) ∙ t.climbs m l;
        }

        here : Tight g 4 w e (λ k. get_or ps k 0)
        here m pos l =
            let r = tight m pos l in
            let i = t.inside m l in (
              r.0,
              subst (λ z. (z < 4) × (m < 4) × (w z m ≡ some r.0)) (same m l) r.1,
              sym (depths m l) ∙ r.2 ∙ ap (λ z. g.plus z r.0) (depths (p m) i ∙ ap e (same m l)),
            )

        test : (not (fits_tree? ps) || same_list ps found) ≡ true
        test =
            all_at 4 (λ c. not (fits_tree? (0 ∷ p 1 ∷ p 2 ∷ c ∷ [])) || same_list (0 ∷ p 1 ∷ p 2 ∷ c ∷ []) found)
            (all_at 4 (λ b. all 4 (λ c. not (fits_tree? (0 ∷ p 1 ∷ b ∷ c ∷ [])) || same_list (0 ∷ p 1 ∷ b ∷ c ∷ []) found))
            (all_at 4 (λ a. all 4 (λ b. all 4 (λ c. not (fits_tree? (0 ∷ a ∷ b ∷ c ∷ [])) || same_list (0 ∷ a ∷ b ∷ c ∷ []) found))) h
            (p 1) (t.inside 1 (omega arith))) (p 2) (t.inside 2 (omega arith))) (p 3) (t.inside 3 (omega arith))

        is : ps ≡ found
        is = by (or_cases (not (fits_tree? ps)) (same_list ps found) test)
          where
            by : (not (fits_tree? ps) ≡ true) ⊎ (same_list ps found ≡ true) → ps ≡ found
            by (inl h) = absurd (true≢false (sym h ∙ not_from_true (fits_tree? ps) (and_from (tree? g 4 w (λ k. get_or ps k 0)) (tight? g 4 w e (λ k. get_or ps k 0)) (tree_yes 4 w (λ k. get_or ps k 0) tree) (tight_yes 4 w e (λ k. get_or ps k 0) here))))
            by (inr h) = same_list_is ps found h

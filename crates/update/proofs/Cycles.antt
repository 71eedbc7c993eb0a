-- The cycle that a contradiction leaves, read along the parents. Assumes nothing.
use Rattle.std.proofs.Common.{◌≡◌, ℕ, zero, suc, ◌+◌, ◌<◌, ◌≤◌, List, [], ◌∷◌, ◌++◌, length, sym, refl, ap, ◌∙◌, subst, inl, inr, arith}
use Rattle.std.proofs.lemmas.Bool.{cases_lt}
use Rattle.measure.specs.Group.{OrderedGroup}
use Rattle.graph.specs.Graph.{Cycle, Different, In, Weight}
use Rattle.graph.specs.Tree.{climb, way}
use Rattle.graph.proofs.Walks.{cycle_different, cycle_inside}
use Rattle.graph.proofs.Lists.{in_left, pigeonhole}
use Rattle.table.specs.Climb.{FirstClimb, Leads}
use Rattle.table.proofs.Climbs.{climb_add}
use Rattle.table.proofs.Ways.{length_down}
use Rattle.update.specs.Lowering.{NegativeCycle}

-- where two parents agree along a way, the ways are one
pub way_same : (p q : ℕ → ℕ) (k m : ℕ) → ((i : ℕ) → i < k → q (climb p i m) ≡ p (climb p i m)) → (way q k m ≡ way p k m) × (climb q k m ≡ climb p k m)
way_same p q zero m h = (refl, refl)
way_same p q (suc k) m h = joined (h 0 (omega arith)) (way_same p q k (p m) (λ i l. h (suc i) (raise i l)))
  where
    raise : (i : ℕ) → i < k → suc i < suc k
    raise i l = omega arith

    joined : q m ≡ p m → (way q k (p m) ≡ way p k (p m)) × (climb q k (p m) ≡ climb p k (p m))
        → (way q k (q m) ++ (m ∷ []) ≡ way p k (p m) ++ (m ∷ [])) × (climb q k (q m) ≡ climb p k (p m))
    joined e (f, o) = (rw (e, f) refl, rw e o)

append_assoc : (xs ys zs : List ℕ) → (xs ++ ys) ++ zs ≡ xs ++ (ys ++ zs)
append_assoc [] ys zs = refl
append_assoc (x ∷ xs) ys zs = ap (λ l. x ∷ l) (append_assoc xs ys zs)

append_none : (xs : List ℕ) → xs ++ [] ≡ xs
append_none [] = refl
append_none (x ∷ xs) = ap (λ l. x ∷ l) (append_none xs)

in_right : (x : ℕ) (xs ys : List ℕ) → In x ys → In x (xs ++ ys)
in_right x [] ys i = i
in_right x (y ∷ xs) ys i = inr (in_right x xs ys i)

different_right : (xs ys : List ℕ) → Different (xs ++ ys) → Different ys
different_right [] ys d = d
different_right (x ∷ xs) ys (h, d) = different_right xs ys d

-- what stands in the one part does not stand in the other
different_apart : (xs ys : List ℕ) → Different (xs ++ ys) → (x : ℕ) → In x xs → In x ys → ⊥
different_apart [] ys d x i k = i
different_apart (y ∷ xs) ys (h, d) x (inl e) k = h (subst (λ v. In v (xs ++ ys)) e (in_right x xs ys k))
different_apart (y ∷ xs) ys (h, d) x (inr i) k = different_apart xs ys d x i k

-- the climbs that come before the end stand on the way
climb_in_way : (p : ℕ → ℕ) (k m i : ℕ) → i < k → In (climb p i m) (way p k m)
climb_in_way p zero m i h = absurd (omega arith)
climb_in_way p (suc k) m zero h = in_right m (way p k (p m)) (m ∷ []) (inl refl)
climb_in_way p (suc k) m (suc i) h = in_left (climb p i (p m)) (way p k (p m)) (m ∷ []) (climb_in_way p k (p m) i (lower i k h))
  where
    lower : (i k : ℕ) → suc i < suc k → i < k
    lower i k h = omega arith

-- j climbs, and then i more
way_add : (p : ℕ → ℕ) (j i m : ℕ) → way p (j + i) m ≡ way p i (climb p j m) ++ way p j m
way_add p zero i m = let e : 0 + i ≡ i = omega arith in ap (λ k. way p k m) e ∙ sym (append_none (way p i m))
way_add p (suc j) i m =
    let e : suc j + i ≡ suc (j + i) = omega arith in
    ap (λ k. way p k m) e ∙ ap (λ l. l ++ (m ∷ [])) (way_add p j i (p m)) ∙ append_assoc (way p i (climb p j (p m))) (way p j (p m)) (m ∷ [])

-- with z hung on y the way from b to y and that from z to a are one
pub closed : (g : OrderedGroup) (n : ℕ) (w : Weight g) (q q' : ℕ → ℕ) (a b y z down up : ℕ) (s : g.carrier)
    → q' z ≡ y → ((u : ℕ) → ¬ (u ≡ z) → q' u ≡ q u) → climb q down y ≡ b → climb q up a ≡ z
    → Cycle g n w (b ∷ (way q down y ++ (z ∷ way q up a))) s → ¬ g.le g.neutral s → NegativeCycle g n w q' a b
closed g n w q q' a b y z down up s here other below above cycle negative = record {
  up = up + suc down;
  sum = s;
  first = climb_add q' up (suc down) a ∙ ap (climb q' (suc down)) at_z ∙ ap (climb q' down) here ∙ lower.1 ∙ below;
  cycle = subst (λ l. Cycle g n w (b ∷ l) s) (sym whole) cycle;
  negative = negative;
}
  where
    different : Different (way q down y ++ (z ∷ way q up a))
    different = (cycle_different g n w (b ∷ (way q down y ++ (z ∷ way q up a))) s cycle).1

    not_lower : (i : ℕ) → i < down → climb q i y ≡ z → ⊥
    not_lower i h e = different_apart (way q down y) (z ∷ way q up a) different (climb q i y) (climb_in_way q down y i h) (inl e)

    not_upper : (i : ℕ) → i < up → climb q i a ≡ z → ⊥
    not_upper i h e = (different_right (way q down y) (z ∷ way q up a) different).0 (subst (λ v. In v (way q up a)) e (climb_in_way q up a i h))

    lower : (way q' down y ≡ way q down y) × (climb q' down y ≡ climb q down y)
    lower = way_same q q' down y (λ i h. other (climb q i y) (not_lower i h))

    upper : (way q' up a ≡ way q up a) × (climb q' up a ≡ climb q up a)
    upper = way_same q q' up a (λ i h. other (climb q i a) (not_upper i h))

    at_z : climb q' up a ≡ z
    at_z = upper.1 ∙ above

    whole : way q' (up + suc down) a ≡ way q down y ++ (z ∷ way q up a)
    whole =
        way_add q' up (suc down) a
        ∙ ap (λ v. way q' (suc down) v ++ way q' up a) at_z
        ∙ ap (λ v. (way q' down v ++ (z ∷ [])) ++ way q' up a) here
        ∙ ap (λ l. (l ++ (z ∷ [])) ++ way q' up a) lower.0
        ∙ ap (λ l. (way q down y ++ (z ∷ [])) ++ l) upper.0
        ∙ append_assoc (way q down y) (z ∷ []) (way q up a)

module _ (g : OrderedGroup) (n : ℕ) (w : Weight g) (q : ℕ → ℕ) (a b : ℕ) (c : NegativeCycle g n w q a b) where
  -- the climb of a cycle is the first to come to b
  pub cycle_first : FirstClimb q c.up a b
  cycle_first = record {
    there = c.first;
    before = λ i h e. (cycle_different g n w (b ∷ way q c.up a) c.sum c.cycle).0 (subst (λ v. In v (way q c.up a)) e (climb_in_way q c.up a i h));
  }

  -- so that the cycle can be written
  pub cycle_leads : n ≤ 64 → (room : ℕ) → n ≤ room → Leads q a b room
  cycle_leads few room h = record { steps = c.up; first = cycle_first; inside = inside; short = omega (arith, count); fits = omega (arith, count) }
    where
      below : (m : ℕ) → In m (b ∷ way q c.up a) → m < n
      below = cycle_inside g n w (b ∷ way q c.up a) c.sum c.cycle

      count : c.up + 1 ≤ n
      count =
          subst (λ k. k ≤ n) (length_down q c.up a)
          (subst (λ v. length (v ∷ way q c.up a) ≤ n) (sym c.first) (pigeonhole n (b ∷ way q c.up a) (cycle_different g n w (b ∷ way q c.up a) c.sum c.cycle) below))

      inside : (i : ℕ) → i ≤ c.up → climb q i a < 64
      inside i l = elim (cases_lt i c.up) [
        | inl k ↦ let r : climb q i a < n = below (climb q i a) (inr (climb_in_way q c.up a i k)) in omega arith
        | inr k ↦
            let e : i ≡ c.up = omega arith in
            let r : climb q i a < n = below (climb q i a) (inl (ap (λ j. climb q j a) e ∙ c.first)) in
            omega arith
      ]

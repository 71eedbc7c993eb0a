-- Effective bounds can be solved, and more ties only lower them. Assumes nothing.
use Rattle.std.proofs.Common.{◌≡◌, ℕ, ◌<◌, Bool, true, false, cond, eqb, ◌⊎◌, Some, None, Option, sym, refl, ap, ◌∙◌, subst, inl, inr, true≢false, arith}
use Rattle.std.proofs.lemmas.Bool.{cases_Bool, and_parts, eqb-true, eq-eqb, and_from, ne_eqb, cond-true, cond-false}
use Rattle.measure.specs.declared.Amount.{Amount}
use Rattle.measure.specs.declared.Measure as measure
use Rattle.measure.specs.Least.{first_of}
use Rattle.measure.proofs.Within.{wider_to}
use Rattle.store.specs.Meaning.{Lawful, same_pair, set_tie, StoreMeaning}
use Rattle.graph.specs.Weights.{Usable, valued}
use Rattle.graph.specs.declared.Graph as graph
use Rattle.graph.specs.Change.{Lowered, Raised}
use Rattle.graph.specs.Graph.{Edge}
use Rattle.graph.proofs.Valued.{amount_of}
use Rattle.law.specs.Standing.{bound_at, bounds_of, capped, Ties}
use Rattle.bounds.specs.Small.{BoundsSound, Small}

abbrev or_else : Amount → Option Amount → Amount
or_else d None = d
or_else d (Some w) = w

abbrev there : Option Amount → Bool
there None = false
there (Some w) = true

pub same_some : (a b : Amount) → Some a ≡ Some b → a ≡ b
same_some a b e = ap (or_else a) e

pub no_some : (a : Amount) → None ≡ Some a → ⊥
no_some a e = true≢false (sym (ap there e))

either : {P Q : Type 0} (C : Amount → Type 0) (e : P ⊎ Q) (a b : Amount) → C a → C b → C (first_of e a b)
either C (inl p) a b x y = x
either C (inr q) a b x y = y

-- a tie set at a pair, seen there and elsewhere
pub set_here : (t : Ties) (a b : ℕ) (o : Option Amount) → set_tie t a b o a b ≡ o
set_here t a b o = cond-true (same_pair a b a b) o (t a b) (and_from _ _ (eq-eqb a a refl) (eq-eqb b b refl))

pub set_other : (t : Ties) (a b : ℕ) (o : Option Amount) (x y : ℕ) → ¬ ((x ≡ a) × (y ≡ b)) → set_tie t a b o x y ≡ t x y
set_other t a b o x y ne = elim (cases_Bool (same_pair a b x y)) [
  | inl e ↦ absurd (ne (eqb-true x a (and_parts _ _ e).0, eqb-true y b (and_parts _ _ e).1))
  | inr e ↦ cond-false (same_pair a b x y) o (t x y) e
]

module _ {M : Type 0} (μ : measure.Ghosts M) where
  -- zero is no larger than an admitted amount
  pub zero_small : μ.within 1 μ.zero
  zero_small = wider_to μ.laws.wider 0 1 μ.zero (omega arith) μ.laws.zero_within

  capped_small : (cap : Amount) (o : Option Amount) → μ.within 1 cap → Small μ o → μ.within 1 (capped μ cap o)
  capped_small cap None h k = h
  capped_small cap (Some w) h k = either (μ.within 1) (μ.group.le_total (μ.value w) (μ.value cap)) w cap (k w refl) h

  small_by : (r p q : Bool) (c d w : Amount) (o : Option Amount) → μ.within 1 c → μ.within 1 d → Small μ o → cond r None (cond p (Some c) (cond q (Some d) o)) ≡ Some w → μ.within 1 w
  small_by true p q c d w o hc hd ho e = absurd (no_some w e)
  small_by false true q c d w o hc hd ho e = subst (μ.within 1) (same_some c w e) hc
  small_by false false true c d w o hc hd ho e = subst (μ.within 1) (same_some d w e) hd
  small_by false false false c d w o hc hd ho e = ho w e

  module _ (total : Amount) (t : Ties) (sound : BoundsSound μ total t) where
    -- no bound is large
    pub bound_small : (x y : ℕ) (w : Amount) → bound_at μ total x y (t x y) ≡ Some w → μ.within 1 w
    bound_small x y w e =
        small_by (eqb x y) (eqb y 0) (eqb x 0) (capped μ μ.zero (t x y)) (capped μ total (t x y)) w (t x y)
        (capped_small μ.zero (t x y) zero_small (sound.small x y)) (capped_small total (t x y) sound.total_small (sound.small x y)) (sound.small x y) e

    -- every marker has a bound from the datum
    pub bound_reach : (b : ℕ) → 0 < b → (w : Amount) × (bound_at μ total 0 b (t 0 b) ≡ Some w)
    bound_reach b h =
        (capped μ total (t 0 b), cond-false (eqb 0 b) _ _ (ne_eqb 0 b (λ e. omega arith)) ∙ cond-false (eqb b 0) _ _ (ne_eqb b 0 (λ e. omega arith)))

    -- no marker has a bound to itself
    pub bound_loop : (a : ℕ) → bound_at μ total a a (t a a) ≡ None
    bound_loop a = cond-true (eqb a a) None _ (eq-eqb a a refl)

  capped_le : (cap : Amount) (o : Option Amount) → μ.group.le (μ.value (capped μ cap o)) (μ.value cap)
  capped_le cap None = μ.group.le_refl (μ.value cap)
  capped_le cap (Some w) = by (μ.group.le_total (μ.value w) (μ.value cap))
    where
      by : (e : μ.group.le (μ.value w) (μ.value cap) ⊎ (μ.group.le (μ.value cap) (μ.value w) × (μ.group.le (μ.value w) (μ.value cap) → ⊥))) → μ.group.le (μ.value (first_of e w cap)) (μ.value cap)
      by (inl h) = h
      by (inr h) = μ.group.le_refl (μ.value cap)

  fewer_by : (r p q : Bool) (c d cap cup v : Amount) (o : Option Amount) → μ.group.le (μ.value c) (μ.value cap) → μ.group.le (μ.value d) (μ.value cup)
      → cond r None (cond p (Some cap) (cond q (Some cup) None)) ≡ Some v → (w : Amount) × (cond r None (cond p (Some c) (cond q (Some d) o)) ≡ Some w) × μ.group.le (μ.value w) (μ.value v)
  fewer_by true p q c d cap cup v o h k e = absurd (no_some v e)
  fewer_by false true q c d cap cup v o h k e = (c, refl, subst (λ (i : Amount). μ.group.le (μ.value c) (μ.value i)) (same_some cap v e) h)
  fewer_by false false true c d cap cup v o h k e = (d, refl, subst (λ (i : Amount). μ.group.le (μ.value d) (μ.value i)) (same_some cup v e) k)
  fewer_by false false false c d cap cup v o h k e = absurd (no_some v e)

  -- where a pair has a bound without a tie, it has one with a tie, which is no more
  pub fewer : (total : Amount) (x y : ℕ) (o : Option Amount) (v : Amount) → bound_at μ total x y None ≡ Some v → (w : Amount) × (bound_at μ total x y o ≡ Some w) × μ.group.le (μ.value w) (μ.value v)
  fewer total x y o v e = fewer_by (eqb x y) (eqb y 0) (eqb x 0) (capped μ μ.zero o) (capped μ total o) μ.zero total v o (capped_le μ.zero o) (capped_le total o) e

  -- the tie of one pair is set, and its bound is no more than it was
  pub lowered : (total : Amount) (t : Ties) (a b : ℕ) (o : Option Amount) (c : Amount) → bound_at μ total a b o ≡ Some c
      → ((v : Amount) → bound_at μ total a b (t a b) ≡ Some v → μ.group.le (μ.value c) (μ.value v))
      → Lowered μ.group (bounds_of μ total t) (bounds_of μ total (set_tie t a b o)) a b (μ.value c)
  lowered total t a b o c e less = record {
    at = ap (valued μ.value) (ap (bound_at μ total a b) (set_here t a b o) ∙ e);
    less = λ v k. let x = amount_of μ.value (bound_at μ total a b (t a b)) v k in subst (μ.group.le (μ.value c)) x.2 (less x.0 x.1);
    other = λ x y ne. ap (λ (i : Option Amount). valued μ.value (bound_at μ total x y i)) (set_other t a b o x y ne);
  }

  -- a tie that is cleared leaves no smaller bound
  pub cleared_raised : (total : Amount) (t : Ties) (a b n : ℕ) → Raised μ.group n (bounds_of μ total t) (bounds_of μ total (set_tie t a b None))
  cleared_raised total t a b n x y c (hx, hy, e) = by (cases_Bool (same_pair a b x y))
    where
      by : (same_pair a b x y ≡ true) ⊎ (same_pair a b x y ≡ false) → (c' : μ.group.carrier) × Edge μ.group n (bounds_of μ total t) x y c' × μ.group.le c' c
      by (inl k) =
          let gone = cond-true (same_pair a b x y) None (t x y) k in
          let v = amount_of μ.value (bound_at μ total x y (set_tie t a b None x y)) c e in
          let r = fewer total x y (t x y) v.0 (ap (bound_at μ total x y) (sym gone) ∙ v.1) in
          (μ.value r.0, (hx, hy, ap (valued μ.value) r.1), subst (μ.group.le (μ.value r.0)) v.2 r.2)
      by (inr k) = (c, (hx, hy, ap (λ (i : Option Amount). valued μ.value (bound_at μ total x y i)) (sym (cond-false (same_pair a b x y) None (t x y) k)) ∙ e), μ.group.le_refl c)

  -- a small tie that is set keeps the bounds small
  pub set_sound : (total : Amount) (t : Ties) (a b : ℕ) (o : Option Amount) → BoundsSound μ total t → Small μ o → BoundsSound μ total (set_tie t a b o)
  set_sound total t a b o s small = record { total_small = s.total_small; small = λ x y. by (same_pair a b x y) (t x y) (s.small x y) }
    where
      by : (p : Bool) (i : Option Amount) → Small μ i → Small μ (cond p o i)
      by true i h = small
      by false i h = h

-- the bounds of a lawful store's ties can be solved
pub usable : {G M : Type 0} (s : graph.Ghosts G) (μ : measure.Ghosts M) (x : G) (m : StoreMeaning) (total : Amount) (t : Ties)
    → Lawful m → BoundsSound μ total t → s.sound x → s.count x ≡ m.count → ((a b : ℕ) → s.weight x a b ≡ bound_at μ total a b (t a b)) → Usable s μ x
usable s μ x m total t law sound is n w = record {
  sound = is;
  some = omega (arith, law.low);
  few = omega (arith, law.high);
  small = λ a b v e. bound_small μ total t sound a b v (sym (w a b) ∙ e);
  reach = λ b h l. let r = bound_reach μ total t sound b h in (r.0, w 0 b ∙ r.1);
  no_loop = λ a. w a a ∙ bound_loop μ total t sound a;
}

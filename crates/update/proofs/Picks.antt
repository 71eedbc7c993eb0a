-- The marker picked so far, one marker on. Assumes nothing.
use Rattle.std.proofs.Common.{◌≡◌, ℕ, ◌+◌, ◌<◌, Bool, true, false, Some, None, Option, sym, ap, ◌∙◌, ⊎_elim, true≢false, arith}
use native.Mathlib.Decide.{ℕ_discrete}
use Rattle.measure.specs.Group.{OrderedGroup}
use Rattle.graph.proofs.Relabel.{Picked}
use Rattle.graph.proofs.Sums.{both, weigh, left_comm}
use Rattle.update.specs.Nearest.{Best}

module _ (g : OrderedGroup) where
  open g use {carrier, plus, le, assoc, comm}

  -- what is not at most is above
  pub turned : (x y : carrier) → ¬ le x y → le y x
  turned x y h = ⊎_elim (λ k. absurd (h k)) (λ k. k.0) (g.le_total x y)

  -- one that leads, and one that leads it
  pub lead : (Li di Lb db Lz dz : carrier) → le (plus Li db) (plus Lb di) → le (plus Lb dz) (plus Lz db) → le (plus Li dz) (plus Lz di)
  lead Li di Lb db Lz dz h k = weigh g _ _ (both g h k) (simp (assoc, comm, left_comm g))

module _ (g : OrderedGroup) (X : ℕ → Bool) (d L : ℕ → g.carrier) (i : ℕ) where
  earlier : (z : ℕ) → z < i + 1 → ¬ (z ≡ i) → z < i
  earlier z h k = omega arith

  all_more : ((z : ℕ) → z < i → X z ≡ true) → X i ≡ true → (z : ℕ) → z < i + 1 → X z ≡ true
  all_more all x z h = at (ℕ_discrete z i)
    where
      at : Dec (z ≡ i) → X z ≡ true
      at (yes e) = rw e x
      at (no k) = all z (earlier z h k)

  pub picked_first : ((z : ℕ) → z < i → X z ≡ true) → X i ≡ false → Picked g (i + 1) d X L i
  picked_first all x = record { inside = omega arith; unsettled = x; first = λ z h u. at z h u (ℕ_discrete z i) }
    where
      at : (z : ℕ) → z < i + 1 → X z ≡ false → Dec (z ≡ i) → g.le (g.plus (L i) (d z)) (g.plus (L z) (d i))
      at z h u (yes e) = rw e (g.le_refl _)
      at z h u (no k) = absurd (true≢false (sym (all z (earlier z h k)) ∙ u))

  pub picked_same : (b : ℕ) → Picked g i d X L b → (X i ≡ false → g.le (g.plus (L b) (d i)) (g.plus (L i) (d b))) → Picked g (i + 1) d X L b
  picked_same b p here = record { inside = up p.inside; unsettled = p.unsettled; first = λ z h u. at z h u (ℕ_discrete z i) }
    where
      up : b < i → b < i + 1
      up h = omega arith

      at : (z : ℕ) → z < i + 1 → X z ≡ false → Dec (z ≡ i) → g.le (g.plus (L b) (d z)) (g.plus (L z) (d b))
      at z h u (yes e) = rw e (here (sym (ap X e) ∙ u))
      at z h u (no k) = p.first z (earlier z h k) u

  pub picked_new : (b : ℕ) → Picked g i d X L b → X i ≡ false → ¬ g.le (g.plus (L b) (d i)) (g.plus (L i) (d b)) → Picked g (i + 1) d X L i
  picked_new b p x less = record { inside = omega arith; unsettled = x; first = λ z h u. at z h u (ℕ_discrete z i) }
    where
      at : (z : ℕ) → z < i + 1 → X z ≡ false → Dec (z ≡ i) → g.le (g.plus (L i) (d z)) (g.plus (L z) (d i))
      at z h u (yes e) = rw e (g.le_refl _)
      at z h u (no k) = lead g (L i) (d i) (L b) (d b) (L z) (d z) (turned g _ _ less) (p.first z (earlier z h k) u)

  pub skipped : (o : Option ℕ) → X i ≡ true → Best g X d L i o → Best g X d L (i + 1) o
  skipped None x all = all_more all x
  skipped (Some b) x p = picked_same b p (λ u. absurd (true≢false (sym x ∙ u)))
